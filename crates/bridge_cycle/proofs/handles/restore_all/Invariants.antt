use Rattle.std.proofs.Common.{◌≡◌, drop, length, take}
use Rattle.bridge_graph.specs.Handles.{handles_of}
use Rattle.bridge_cycle.specs.Turns.{RestoresAll}
use Rattle.bridge_cycle.proofs.handles.restore_all.Given as goal

abbrev pub invariant-loop-i : goal.invariant-loop-i
invariant-loop-i g l = (l.driver.thread ≡ l.initial.driver.thread)
    × RestoresAll l.initial.driver.view l.driver.view l.index l.opened.graph.nodes (handles_of (take l.i l.opened.graph.nodes)) l.alive.values
    × (l.alive.room ≡ length (handles_of (drop l.i l.opened.graph.nodes)))
