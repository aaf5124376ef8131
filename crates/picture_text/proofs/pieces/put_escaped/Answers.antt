use Rattle.picture_text.proofs.Chains.{c2}
use Rattle.picture_text.proofs.pieces.put_escaped.Goals as goal

pub returns : goal.returns
returns c = c2 _ _ _ _ _ c.in_ok-put_byte.ensures c.in_ok-put_byte-2.ensures
