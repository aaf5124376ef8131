use Rattle.picture_text.proofs.Chains.{c5}
use Rattle.picture_text.proofs.texts.put_node.Goals as goal

pub returns : goal.returns
returns c = c5 _ _ _ _ _ _ _ _ _ _ _ c.in_ok-put.ensures c.in_ok-put_named.ensures c.in_ok-put_label.ensures c.in_ok-put_change.ensures c.in_ok-put-2.ensures
