use Rattle.std.proofs.Common.{◌≡◌, ◌<◌, ◌+◌, length, arith, sym, ap, ◌∙◌, subst}
use Rattle.joint_machine.specs.HistoryLines.{caller_line}
use Rattle.joint_machine.specs.Lines.{IsThread}
use Rattle.order_table.specs.Tells.{IsOfCaller, Parts}
use Rattle.order_table.specs.Views.{Owns}
use Rattle.joint_history.specs.Callers.{KnowsNothing, Pass}
use Rattle.joint_history.specs.Desks.{ArePlaced, thread_of}
use Rattle.joint_history.proofs.Desking.{holds_all, holds_on, nothing_knows, nothing_on, placed_more, thread_is}
use Rattle.joint_history.proofs.KnownCallers.{own_line}
use Rattle.joint_history.proofs.LockedSteps.{not_side}
use Rattle.joint_history.proofs.desks.put_callers.Goals as goal

pub hand-pass-requires-clause-pass : goal.hand-pass-requires-clause-pass
hand-pass-requires-clause-pass g c =
    let place = c.loop-place.place in
    let small : place < 17 = omega (arith, c.loop-place-test.true) in
    subst (λ t. IsThread t × Owns c.loop-place.seat.view (caller_line t)) (sym c.thread_at-t.ensures)
    ((thread_is place small).0, c.loop-place.invariant.4 place (omega arith) small (caller_line (thread_of place)) (own_line (thread_of place)))

pub new-requires-clause-knows : goal.new-requires-clause-knows
new-requires-clause-knows g c = nothing_knows c.thread_at-t.result c.hand-pass.result.view
    (nothing_on (IsOfCaller c.thread_at-t.result) c.loop-place.seat.view c.hand-pass.new.seat.view c.hand-pass.result.view c.hand-pass.ensures.parts c.loop-place.invariant.3).1

pub loop-place-preserved : goal.loop-place-preserved
loop-place-preserved g c =
    let place = c.loop-place.place in
    let small : place < 17 = omega (arith, c.loop-place-test.true) in
    let t = c.thread_at-t.result in
    let is : IsThread t = subst IsThread (sym c.thread_at-t.ensures) (thread_is place small).0 in
    let p = c.hand-pass.ensures.parts in
    let nothing = nothing_on (IsOfCaller t) c.loop-place.seat.view c.hand-pass.new.seat.view c.hand-pass.result.view p c.loop-place.invariant.3 in
    let made = c.new.ensures in
    let len : length c.loop-place.callers.items ≡ place = omega (arith, c.loop-place.invariant.5) in (
      c.hand-pass.ensures.old.0 ∙ c.loop-place.invariant.0,
      p.stayed 0 (not_side t 0 is (omega arith)) c.loop-place.invariant.1,
      p.stayed 1 (not_side t 1 is (omega arith)) c.loop-place.invariant.2,
      nothing.0,
      holds_on place c.loop-place.seat.view c.hand-pass.new.seat.view c.hand-pass.result.view small c.loop-place.invariant.4
          (subst (λ u. Parts (IsOfCaller u) c.loop-place.seat.view c.hand-pass.new.seat.view c.hand-pass.result.view) c.thread_at-t.ensures p),
      omega (arith, c.in_ok-push.ensures.len, c.loop-place.invariant.5),
      subst (ArePlaced (place + 1)) (sym c.in_ok-push.ensures.items)
          (placed_more place c.loop-place.callers.items c.new.result len (ap (λ (q : Pass). q.thread) made ∙ c.thread_at-t.ensures)
          (subst (λ (q : Pass). KnowsNothing q.view) (sym made) nothing.1) c.loop-place.invariant.6),
      c.hand-pass.ensures.settled.0,
    )

pub loop-place-init : goal.loop-place-init
loop-place-init g c =
    let all = c.requires.seat in
    (c.requires.order.1, all.0 0 (omega arith), all.0 1 (omega arith), all.1, holds_all c.args.seat.now.view all.0, c.requires.empty, λ i l. absurd (omega arith), c.requires.settled)

pub returns-in_err-push-clause-seat : goal.returns-in_err-push-clause-seat
returns-in_err-push-clause-seat g c =
    let t = c.thread_at-t.result in
    let is : IsThread t = subst IsThread (sym c.thread_at-t.ensures) (thread_is c.loop-place.place (omega (arith, c.loop-place-test.true))).0 in
    let p = c.hand-pass.ensures.parts in (
      p.stayed 0 (not_side t 0 is (omega arith)) c.loop-place.invariant.1,
      p.stayed 1 (not_side t 1 is (omega arith)) c.loop-place.invariant.2,
      (nothing_on (IsOfCaller t) c.loop-place.seat.view c.hand-pass.new.seat.view c.hand-pass.result.view p c.loop-place.invariant.3).0,
    )

pub returns-clause-callers : goal.returns-clause-callers
returns-clause-callers g c =
    let full : c.loop-place.place ≡ 17 = omega (arith, c.loop-place-test.false, c.loop-place.auto.place-end) in
    record { places = omega (arith, c.loop-place.invariant.5, full); placed = subst (λ n. ArePlaced n c.loop-place.callers.items) full c.loop-place.invariant.6 }
