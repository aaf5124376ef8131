-- Each push makes one node more that leads nowhere.
use Rattle.joint_marking.proofs.Edges.{HasNone-pushed, HasNone-within}
use Rattle.joint_marking.proofs.rows.NodeRows.new.Goals as goal

pub loop-preserved : goal.loop-preserved
loop-preserved c = HasNone-pushed (λ r. r.items) c.loop.rows.items c.push.new.self.items c.new.result c.loop.counter c.loop.invariant c.in_ok-push.ensures.items c.new.ensures.items

pub invariant_of-result : goal.invariant_of-result
invariant_of-result c = HasNone-within c.loop.counter _ c.loop.invariant
