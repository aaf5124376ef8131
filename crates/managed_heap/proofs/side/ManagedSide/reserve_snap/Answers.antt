-- What was taken is room for a snapshot of these rows, and nothing that is seen changes beside.
use Rattle.std.proofs.Common.{◌∙◌, refl, sym, ap, subst, arith, true≢false}
use Rattle.std.proofs.lemmas.Option.{same_Some}
use Rattle.managed_heap.specs.declared.rooms.SnapRoom.{SnapRoom}
use Rattle.managed_heap.specs.Rooms.{FitsSnap}
use Rattle.managed_heap.specs.Sides.{model_of}
use Rattle.managed_heap.proofs.side.ManagedSide.reserve_snap.Goals as goal

pub returns-then-is_some-clause-ok : goal.returns-then-is_some-clause-ok
returns-then-is_some-clause-ok c =
    let i = c.self.inside in
    rw (← c.self.view_is) (ap (λ b. model_of i.threads i.entries.entries i.takings i.rows b) (sym c.is_some.ensures ∙ c.if-is_some.true))

pub invariant_of-self-2 : goal.invariant_of-self-2
invariant_of-self-2 c = (
  rw c.in_ok-reserve.ensures.entries c.self.invariant.0,
  λ k o. (let owed = c.self.invariant.1 k o in omega (arith, owed, c.in_ok-reserve.ensures.kept)),
  rw c.in_ok-reserve.ensures.entries c.self.invariant.2,
  rw c.in_ok-reserve.ensures.entries c.self.invariant.3,
  rw c.in_ok-reserve.ensures.entries c.self.invariant.4,
  λ r e. c.in_ok-reserve.ensures.room,
  λ r e. subst (λ (z : SnapRoom). FitsSnap z c.self.inside.rows.managed) (same_Some c.in_ok-room.room r (sym c.replace.ensures.after ∙ e)) c.in_ok-room.ensures,
)

pub returns-clause-ok : goal.returns-clause-ok
returns-clause-ok c = rw (← c.self.view_is, c.in_ok-reserve.ensures.entries, c.replace.ensures.after) refl

-- a side that is ready has its room, so no memory is asked for
pub returns-in_err-reserve-clause-sure : goal.returns-in_err-reserve-clause-sure
returns-in_err-reserve-clause-sure c = λ ready. absurd (true≢false (sym (rw (← c.self.view_is) at ready) ∙ (sym c.is_some.ensures ∙ c.if-is_some.false)))

pub returns-in_err-room-clause-sure : goal.returns-in_err-room-clause-sure
returns-in_err-room-clause-sure c = λ ready. absurd (true≢false (sym (rw (← c.self.view_is) at ready) ∙ (sym c.is_some.ensures ∙ c.if-is_some.false)))
