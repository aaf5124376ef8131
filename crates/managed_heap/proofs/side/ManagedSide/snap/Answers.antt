-- A side that is ready is asked for no memory; and what is seen of a side beside that is the same when it is ready.
use Rattle.std.proofs.Common.{◌∙◌, ap, sym, true≢false}
use Rattle.managed_heap.specs.Sides.{ManagedModel, as_side}
use Rattle.managed_heap.proofs.side.ManagedSide.snap.Goals as goal

pub snap_closed-requires-clause-ready : goal.snap_closed-requires-clause-ready
snap_closed-requires-clause-ready g c = ap (λ (m : ManagedModel). m.ready) c.in-Ok.ensures.ok

pub snap_closed-requires-clause-closed : goal.snap_closed-requires-clause-closed
snap_closed-requires-clause-closed g c =
    let closed = rw c.in_default.is at c.open_cycle.ensures in
    ap (λ (m : ManagedModel). m.state.managed.cycle) c.in-Ok.ensures.ok ∙ closed

pub snap_closed-requires-clause-close : goal.snap_closed-requires-clause-close
snap_closed-requires-clause-close g c =
    let closed = rw c.in_default.is at c.open_cycle.ensures in
    rw c.in-Ok.ensures.ok (c.requires.close closed)

pub snap_closed-requires-clause-stand : goal.snap_closed-requires-clause-stand
snap_closed-requires-clause-stand g c = rw c.in-Ok.ensures.ok c.requires.stand

pub snap_closed-requires-clause-may : goal.snap_closed-requires-clause-may
snap_closed-requires-clause-may g c = rw c.in-Ok.ensures.ok c.requires.may

pub returns-in-Some-snap_closed-clause-snaps : goal.returns-in-Some-snap_closed-clause-snaps
returns-in-Some-snap_closed-clause-snaps g c = rw c.in-Ok.ensures.ok at c.in-Some-snap_closed.ensures.snaps

pub returns-in-None-clause-fault : goal.returns-in-None-clause-fault
returns-in-None-clause-fault g c =
    let closed = rw c.in_default.is at c.open_cycle.ensures in
    (closed, c.in-None.ensures.refused.1)

-- the gate wasn't closed, so the side is as it was when it was made ready
pub returns-in-None-clause-ready : goal.returns-in-None-clause-ready
returns-in-None-clause-ready g c = ap (λ (m : ManagedModel). m.ready) (c.in-None.ensures.refused.0 ∙ c.in-Ok.ensures.ok)

pub returns-in-None-clause-err : goal.returns-in-None-clause-err
returns-in-None-clause-err g c = ap as_side (c.in-None.ensures.refused.0 ∙ c.in-Ok.ensures.ok)

pub returns-in-Err-clause-never : goal.returns-in-Err-clause-never
returns-in-Err-clause-never g c = λ ready e. true≢false (sym (c.in-Err.ensures.sure ready))
