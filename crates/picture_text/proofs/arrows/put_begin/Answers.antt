use Rattle.picture_text.proofs.Chains.{c2}
use Rattle.picture_text.proofs.arrows.put_begin.Goals as goal

pub returns : goal.returns
returns c = c2 _ _ _ _ _ c.in_ok-put_way.ensures c.in_ok-put.ensures
