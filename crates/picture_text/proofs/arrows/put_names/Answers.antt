use Rattle.picture_text.proofs.Chains.{c2}
use Rattle.picture_text.proofs.arrows.put_names.Goals as goal

pub returns : goal.returns
returns c = c2 _ _ _ _ _ c.in_ok-put_shape.ensures c.in_ok-put_plain.ensures
