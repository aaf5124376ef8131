use Rattle.std.proofs.Common.{◌≡◌, take}
use Rattle.bridge_graph.specs.Handles.{handles_of}
use Rattle.bridge_cycle.specs.Turns.{WeakensAll}
use Rattle.bridge_cycle.proofs.handles.weaken_all.Given as goal

abbrev pub invariant-loop-i : goal.invariant-loop-i
invariant-loop-i g l = (l.driver.thread ≡ l.initial.driver.thread)
    × WeakensAll l.initial.driver.view l.driver.view l.index l.opened.number l.opened.graph.nodes (handles_of (take l.i l.opened.graph.nodes))
