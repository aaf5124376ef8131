use Rattle.picture_text.proofs.Chains.{c4}
use Rattle.picture_text.proofs.arrows.put_way.Goals as goal

pub returns : goal.returns
returns c = c4 _ _ _ _ _ _ _ _ _ c.in_ok-put.ensures c.in_ok-put_spot.ensures c.in_ok-put-2.ensures c.in_ok-put_spot-2.ensures
