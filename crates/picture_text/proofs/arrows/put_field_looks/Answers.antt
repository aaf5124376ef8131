use Rattle.picture_text.proofs.Chains.{c3}
use Rattle.picture_text.proofs.arrows.put_field_looks.Goals as goal

pub returns : goal.returns
returns c = c3 _ _ _ _ _ _ _ c.in_ok-put.ensures c.in_ok-put_number.ensures c.in_ok-put_byte.ensures
