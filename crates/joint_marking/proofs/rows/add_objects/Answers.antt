-- Each turn adds the edges of one object, which has none if it isn't live.
use Rattle.std.proofs.Common.{arith}
use Rattle.joint_machine.specs.Heaps.{IsLive}
use Rattle.joint_machine.proofs.Deciding.{test-false}
use Rattle.joint_marking.specs.Nodes.{ObjectEdge}
use Rattle.joint_marking.proofs.Edges.{Brought-push, Brought-skip, Brought-all}
use Rattle.joint_marking.proofs.Reaching.{ObjectEdge-live}
use Rattle.joint_marking.proofs.rows.add_objects.Goals as goal
use Rattle.joint_marking.proofs.rows.add_objects.Goals.{then-is_live_object+in_ok-add_object, else-is_live_object}

pub loop-x-preserved : goal.loop-x-preserved
loop-x-preserved g c =
    let both = g.G.JointWalked.graph c.args.g.now in
    let x = c.loop-x.x in
    elim c.if-is_live_object.branch [
      | then-is_live_object+in_ok-add_object w ↦ rw w.rows-is (Brought-push (ObjectEdge both) x _ _ _ c.loop-x.invariant w.in_ok-add_object.ensures)
      | else-is_live_object w ↦ rw w.rows-is (Brought-skip (ObjectEdge both) x _ _
          (λ k j e. test-false (IsLive both.managed.heap x) _ c.is_live_object.ensures w.if-is_live_object.false (ObjectEdge-live both x k j e)) c.loop-x.invariant)
    ]

pub returns : goal.returns
returns g c =
    let both = g.G.JointWalked.graph c.args.g.now in
    Brought-all (ObjectEdge both) c.loop-x.x _ _ (λ x k j e. (let v = ObjectEdge-live both x k j e in omega (arith, v.made.1, c.loop-x-test.false, c.objects-x-end.ensures.made))) c.loop-x.invariant
