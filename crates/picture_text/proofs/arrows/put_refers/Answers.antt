use Rattle.picture_text.proofs.Chains.{c3}
use Rattle.picture_text.proofs.arrows.put_refers.Goals as goal

pub returns : goal.returns
returns c = c3 _ _ _ _ _ _ _ c.in_ok-put_point.ensures c.in_ok-put_point-2.ensures c.in_ok-put_plain.ensures
