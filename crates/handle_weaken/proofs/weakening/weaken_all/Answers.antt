-- Each bridge node's handle may be weakened when its turn comes.
use Rattle.std.proofs.Common.{◌∙◌}
use Rattle.handle_weaken.proofs.Weakened.{IsWeakening-node, IsWeakening-passed, next-may, next-room, next-weakens}
use Rattle.handle_weaken.proofs.weakening.weaken_all.Goals as goal
use Rattle.handle_weaken.proofs.weakening.weaken_all.Goals.{in-Some, in_default}

pub weaken_one-requires-clause-left : goal.weaken_one-requires-clause-left
weaken_one-requires-clause-left g c = next-room _ _ _ _ _ c.args.index c.args.cites c.args.graph.now.nodes c.loop-i.i c.loop-i.invariant c.in-Some.h c.in-Some.ensures

pub weaken_one-requires-clause-weakens : goal.weaken_one-requires-clause-weakens
weaken_one-requires-clause-weakens g c = next-weakens _ _ _ _ _ c.args.index c.args.cites c.args.graph.now.nodes c.loop-i.i c.loop-i.invariant c.in-Some.h c.in-Some.ensures

pub weaken_one-requires-clause-may : goal.weaken_one-requires-clause-may
weaken_one-requires-clause-may g c = next-may _ _ _ _ _ c.args.index c.args.cites c.args.graph.now.nodes c.loop-i.i c.loop-i.invariant c.in-Some.h c.in-Some.ensures

pub loop-i-preserved : goal.loop-i-preserved
loop-i-preserved g c = elim c.match-handle.branch [
  | in-Some w ↦ rw (w.side-is, w.draw-is) (IsWeakening-node _ _ _ _ _ c.args.index c.args.cites c.args.graph.now.nodes c.loop-i.i
      c.loop-i.invariant w.in-Some.h w.in-Some.ensures _ _ w.weaken_one.ensures.adds w.weaken_one.ensures.reserve w.weaken_one.ensures.peers)
  | in_default w ↦ rw (w.side-is, w.draw-is) (IsWeakening-passed _ _ _ _ _ c.args.index c.args.cites c.args.graph.now.nodes c.loop-i.i c.loop-i.invariant
      (c.handle.ensures.0, c.handle.ensures.1, c.handle.ensures.2 ∙ w.in_default.is))
]
