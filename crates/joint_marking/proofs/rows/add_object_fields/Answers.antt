-- Each turn adds the edge of one place, or the place is empty.
use Rattle.std.proofs.Common.{◌<◌, length, arith}
use Rattle.joint_machine.specs.Heaps.{IsLive, fields_of}
use Rattle.joint_marking.proofs.Edges.{Places-push, Places-skip, Places-all}
use Rattle.joint_marking.proofs.rows.add_object_fields.Goals as goal
use Rattle.joint_marking.proofs.rows.add_object_fields.Goals.{in-Some+in_ok-add, in_default}

pub loop-i-preserved : goal.loop-i-preserved
loop-i-preserved g c =
    let h = (g.G.JointWalked.graph c.args.g.now).managed.heap in
    let fields = fields_of h c.args.x.0 in
    let within : c.loop-i.i < length fields = omega (arith, c.loop-i-test.true, c.object_fields-i-end.ensures) in
    elim c.match-object_field.branch [
      | in-Some+in_ok-add w ↦ rw w.rows-is (Places-push (IsLive h) (λ y. y) c.args.x.0 fields c.loop-i.i w.in-Some.y.0 _ _ _ within
          w.in-Some.ensures.value w.in-Some.ensures.live c.loop-i.invariant w.in_ok-add.ensures.adds)
      | in_default w ↦ rw w.rows-is (Places-skip (IsLive h) (λ y. y) c.args.x.0 fields c.loop-i.i _ _ within w.in_default.ensures.value c.loop-i.invariant)
    ]

pub returns : goal.returns
returns g c = Places-all (g.G.JointWalked.graph c.args.g.now).managed.heap (λ y. y) c.args.x.0 c.loop-i.i _ _ c.requires.live
    (omega (arith, c.loop-i-test.false, c.object_fields-i-end.ensures)) c.loop-i.invariant
