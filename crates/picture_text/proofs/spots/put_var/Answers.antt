use Rattle.picture_text.proofs.Chains.{c3}
use Rattle.picture_text.proofs.spots.put_var.Goals as goal

pub returns : goal.returns
returns c = c3 _ _ _ _ _ _ _ c.in_ok-put_named.ensures c.in_ok-put_byte.ensures c.in_ok-put_byte-2.ensures
