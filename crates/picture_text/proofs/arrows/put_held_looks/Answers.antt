use Rattle.picture_text.proofs.Chains.{c4}
use Rattle.picture_text.proofs.arrows.put_held_looks.Goals as goal

pub returns : goal.returns
returns c = c4 _ _ _ _ _ _ _ _ _ c.in_ok-put.ensures c.in_ok-put_number.ensures c.in_ok-put_byte.ensures c.in_ok-put_style.ensures
