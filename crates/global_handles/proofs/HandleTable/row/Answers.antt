use Rattle.std.proofs.Common.{sym, ◌∙◌}
use Rattle.global_handles.proofs.Slots.{RisesBetween-named}
use Rattle.global_handles.proofs.HandleTable.row.Goals as goal

pub returns-in_err-row-clause-row : goal.returns-in_err-row-clause-row
returns-in_err-row-clause-row c =
    let none = rw (c.as_slice.ensures.value, c.as_slice-2.ensures.value) at (c.look_up.ensures.none c.in_err-row.was) in
    rw (← c.self.view_is) (c.from_residual.ensures ∙ sym none)

pub returns-clause-row : goal.returns-clause-row
returns-clause-row c =
    let found = rw (c.as_slice.ensures.value, c.as_slice-2.ensures.value) at ((c.look_up.ensures.some c.in_ok-row.field-0-0 c.in_ok-row.row c.in_ok-row.was).1) in
    rw (← c.self.view_is) (sym found)

pub returns-in_err-row-clause-rising : goal.returns-in_err-row-clause-rising
returns-in_err-row-clause-rising c = rw (← c.self.view_is) (RisesBetween-named 0 _ c.self.inside.slots.items _ c.self.invariant.rise)

pub returns-clause-rising : goal.returns-clause-rising
returns-clause-rising c = rw (← c.self.view_is) (RisesBetween-named 0 _ c.self.inside.slots.items _ c.self.invariant.rise)
