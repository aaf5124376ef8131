use Rattle.std.proofs.Common.{take, drop}
use Rattle.bridge_graph.specs.Handles.{handles_of}
use Rattle.handle_weaken.proofs.Weakened.{IsWeakening}
use Rattle.handle_weaken.proofs.weakening.weaken_all.Given as goal

abbrev pub invariant-loop-i : goal.invariant-loop-i
invariant-loop-i g l = IsWeakening g.D.Draw.rules l.initial.draw l.draw l.initial.side l.side l.index l.cites (handles_of (take l.i l.graph.nodes)) (handles_of (drop l.i l.graph.nodes))
