-- The references of the edges so far.
use Rattle.std.proofs.Common.{◌≡◌, map, take}
use Rattle.joint_machine.specs.Components.{mirror_edges}
use Rattle.joint_machine.specs.Control.{carried_edges}
use Rattle.heap_views.specs.Mirrored.{ends_as}
use Rattle.heap_views.proofs.mirrored.carried_refs.Given as goal

abbrev pub invariant-loop-i : goal.invariant-loop-i
invariant-loop-i l = map ends_as l.refs.items
    ≡ carried_edges l.joint.graph.managed l.joint.graph.peers.issued (take l.i (mirror_edges l.comps.comps l.comps.pairs))
