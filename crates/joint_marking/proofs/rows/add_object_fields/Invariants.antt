-- The edges of the places so far are added.
use Rattle.joint_machine.specs.Heaps.{IsLive, fields_of}
use Rattle.joint_marking.specs.Nodes.{AddsEdges}
use Rattle.joint_marking.proofs.Edges.{PlacesBelow}
use Rattle.joint_marking.proofs.rows.add_object_fields.Given as goal

abbrev pub invariant-loop-i : goal.invariant-loop-i
invariant-loop-i g l =
    let h = (g.G.JointWalked.graph l.g).managed.heap in
    AddsEdges (PlacesBelow (IsLive h) (λ y. y) l.x.0 (fields_of h l.x.0) l.i) l.fn.rows l.rows
