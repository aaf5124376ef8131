use Rattle.std.proofs.Common.{◌≡◌, ◌+◌, length, take, drop}
use Rattle.bridge_graph.specs.Handles.{handles_of}
use Rattle.handle_weaken.proofs.Restored.{IsRestoring}
use Rattle.handle_weaken.proofs.restoring.restore_all.Given as goal

abbrev pub invariant-loop-i : goal.invariant-loop-i
invariant-loop-i g l = record {
  going : IsRestoring g.D.Draw.rules l.initial.draw l.draw l.initial.side l.side l.index
      (handles_of (take l.i l.graph.nodes)) (handles_of (drop l.i l.graph.nodes)) l.initial.alive.values l.alive.values;
  room : l.alive.room + length (handles_of (take l.i l.graph.nodes)) ≡ l.initial.alive.room;
}
