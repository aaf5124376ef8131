-- A bridge node has one handle, and another node none.
use Rattle.std.proofs.Common.{◌≡◌, None, ◌∙◌, arith}
use Rattle.bridge_graph.specs.Parts.{HasNode}
use Rattle.bridge_graph.proofs.Handles.{handles-some, handles-none}
use Rattle.peer_mirror.proofs.installing.bridge_nodes.Goals as goal
use Rattle.peer_mirror.proofs.installing.bridge_nodes.Goals.{in-Some, in_default}

pub loop-i-preserved : goal.loop-i-preserved
loop-i-preserved c = elim c.match-handle.branch [
  | in-Some w ↦ rw w.count-is record {
    count = omega (arith, c.loop-i.invariant.count, handles-some c.args.graph.now.nodes c.loop-i.i w.in-Some.field-0 w.in-Some.ensures);
    within = omega (arith, c.loop-i.invariant.within);
  }
  | in_default w ↦
      let none : HasNode c.args.graph.now.nodes c.loop-i.i (λ n. n.handle ≡ None) = (c.handle.ensures.0, c.handle.ensures.1, c.handle.ensures.2 ∙ w.in_default.is) in
      rw w.count-is record { count = omega (arith, c.loop-i.invariant.count, handles-none c.args.graph.now.nodes c.loop-i.i none); within = omega (arith, c.loop-i.invariant.within) }
]
