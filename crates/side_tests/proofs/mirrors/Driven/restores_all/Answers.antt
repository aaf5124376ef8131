-- Both handles may be restored, and then both are.
use Rattle.std.proofs.Common.{true, ◌&&◌, refl, subst, ap, ◌∙◌, arith}
use Rattle.std.specs.Prelude.{slice_get}
use Rattle.joint_machine.specs.PeerReplay.{MayRestore}
use Rattle.side_tests.specs.Circles.{IsCircle, is_given}
use Rattle.side_tests.proofs.Circles.{apart, circle-at, circle-restored_all, circle-stood, each, handles-count, may-restore}
use Rattle.side_tests.proofs.mirrors.Driven.restores_all.Goals as goal

pub restore_all-requires-clause-apart : goal.restore_all-requires-clause-apart
restore_all-requires-clause-apart c = apart c.in_ok-graph.graph.nodes c.in_ok-graph.ensures

pub restore_all-requires-clause-room : goal.restore_all-requires-clause-room
restore_all-requires-clause-room c =
    let n = handles-count c.in_ok-graph.graph.nodes c.in_ok-graph.ensures in
    let room = c.in_ok-alive.ensures.room in
    omega (arith, n, room)

pub restore_all-requires-clause-restores : goal.restore_all-requires-clause-restores
restore_all-requires-clause-restores c =
    let i = c.self.inside in
    let w = c.if-self-ne2.false in
    let b = c.if-self-ne0.false in
    let at = circle-at i.side i.draw i.mirrored i.standing i.kept i.weak i.back 2 0 c.if-not-self.false (omega (arith, w)) (omega (arith, b)) c.self.invariant in
    each c.in_ok-graph.graph.nodes c.in_ok-graph.ensures (λ h. MayRestore i.side.state h.0)
    (may-restore i.side i.draw i.mirrored i.kept 2 0 1 at (omega arith) (omega arith) (c.if-not-is_tabled.ensures refl))
    (may-restore i.side i.draw i.mirrored i.kept 2 0 2 at (omega arith) (omega arith) (c.if-not-is_tabled-2.ensures refl))

pub invariant_of-self : goal.invariant_of-self
invariant_of-self c =
    let i = c.self.inside in
    let w = c.if-self-ne2.false in
    let b = c.if-self-ne0.false in
    let is = c.if-not-self.false in
    circle-stood c.restore_all.new.side c.restore_all.new.draw i.mirrored i.standing c.keeps_both-self-inside.result i.weak 2 is
    (subst (λ z. IsCircle c.restore_all.new.side c.restore_all.new.draw i.mirrored true c.keeps_both-self-inside.result z 2) (omega (arith, w))
    (circle-restored_all i.side c.restore_all.new.side i.draw c.restore_all.new.draw i.mirrored i.kept c.keeps_both-self-inside.result 4 c.in_ok-graph.graph.nodes _ _
    c.in_ok-graph.ensures c.in_ok-alive.ensures.values (c.keeps_both-self-inside.ensures
    ∙ (ap (λ o. i.kept && (is_given o && is_given c.at-second.result)) c.at-first.ensures
    ∙ ap (λ o. i.kept && (is_given (slice_get c.restore_all.new.alive.values 0) && is_given o)) c.at-second.ensures)) c.restore_all.ensures.restores c.restore_all.ensures.reserve
    (circle-at i.side i.draw i.mirrored i.standing i.kept i.weak i.back 2 0 is (omega (arith, w)) (omega (arith, b)) c.self.invariant)))
