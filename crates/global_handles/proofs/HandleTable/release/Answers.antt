-- The row stands in a slot, to which its name leads: that slot keeps nothing any more, and the name is a hole.
use Rattle.std.proofs.Common.{refl, sym, arith}
use Rattle.global_handles.specs.Slots.{rows_of}
use Rattle.global_handles.proofs.Rows.{length-without, without-absent}
use Rattle.global_handles.proofs.Slots.{RisesBetween-named, removed-rows, stands}
use Rattle.global_handles.proofs.HandleTable.release.Goals as goal

pub returns-in_default-clause-row : goal.returns-in_default-clause-row
returns-in_default-clause-row c =
    let none = rw (c.as_slice.ensures.value, c.as_slice-2.ensures.value) at (c.look_up.ensures.none c.in_default.is) in
    rw (← c.self.view_is, none) refl

pub returns-in_default-clause-rows : goal.returns-in_default-clause-rows
returns-in_default-clause-rows c =
    let none = rw (c.as_slice.ensures.value, c.as_slice-2.ensures.value) at (c.look_up.ensures.none c.in_default.is) in
    sym (without-absent _ c.args.h (rw (← c.self.view_is) none))

pub returns-in_default-clause-rising : goal.returns-in_default-clause-rising
returns-in_default-clause-rising c = rw (← c.self.view_is) (RisesBetween-named 0 _ c.self.inside.slots.items _ c.self.invariant.rise)

pub returns-clause-row : goal.returns-clause-row
returns-clause-row c =
    let row = rw (c.as_slice.ensures.value, c.as_slice-2.ensures.value) at ((c.look_up.ensures.some c.in-Some.name c.in-Some.row c.in-Some.is).1) in
    rw (← c.self.view_is, row) refl

pub remove_row-requires-clause-within : goal.remove_row-requires-clause-within
remove_row-requires-clause-within c =
    let row = rw (c.as_slice.ensures.value, c.as_slice-2.ensures.value) at ((c.look_up.ensures.some c.in-Some.name c.in-Some.row c.in-Some.is).1) in
    let found = rw c.as_slice.ensures.value at ((c.look_up.ensures.some c.in-Some.name c.in-Some.row c.in-Some.is).0) in
    (stands c.self.inside.last c.self.inside.slots.items c.self.inside.names.items c.args.h c.in-Some.row c.in-Some.name c.self.invariant.rise found row).within

pub remove_row-requires-clause-chained : goal.remove_row-requires-clause-chained
remove_row-requires-clause-chained c = c.self.invariant.chained

pub invariant_of-self : goal.invariant_of-self
invariant_of-self c =
    let all = c.self.inside.slots.items in
    let es = c.self.inside.names.items in
    let i = c.self.invariant in
    let row = rw (c.as_slice.ensures.value, c.as_slice-2.ensures.value) at ((c.look_up.ensures.some c.in-Some.name c.in-Some.row c.in-Some.is).1) in
    let found = rw c.as_slice.ensures.value at ((c.look_up.ensures.some c.in-Some.name c.in-Some.row c.in-Some.is).0) in
    let st = stands c.self.inside.last all es c.args.h c.in-Some.row c.in-Some.name i.rise found row in
    let e = c.remove_row.ensures in
    let less = length-without 0 c.self.inside.last (rows_of all es) c.args.h c.in-Some.row (RisesBetween-named 0 _ all es i.rise) row in
    record {
      most = omega (arith, e.len);
      counted = rw (e.rows es, removed-rows c.self.inside.last all es c.args.h c.in-Some.row c.in-Some.name i.rise st) (omega (arith, less, i.counted));
      few = omega (arith, e.len, i.few);
      rise = i.rise;
      placed = rw e.len i.placed;
      twice = omega (arith, e.len, i.twice);
      chained = e.chained;
      slots_room = omega (arith, i.slots_room, e.len, e.capacity);
      names_room = omega (arith, i.names_room, e.len);
      heads_most = omega (arith, i.heads_most, e.heads_len);
      heads_room = omega (arith, i.heads_room, e.heads_capacity);
    }

pub returns-clause-rows : goal.returns-clause-rows
returns-clause-rows c =
    let all = c.self.inside.slots.items in
    let es = c.self.inside.names.items in
    let row = rw (c.as_slice.ensures.value, c.as_slice-2.ensures.value) at ((c.look_up.ensures.some c.in-Some.name c.in-Some.row c.in-Some.is).1) in
    let found = rw c.as_slice.ensures.value at ((c.look_up.ensures.some c.in-Some.name c.in-Some.row c.in-Some.is).0) in
    let st = stands c.self.inside.last all es c.args.h c.in-Some.row c.in-Some.name c.self.invariant.rise found row in
    rw (c.remove_row.ensures.rows es, ← c.self.view_is) (removed-rows c.self.inside.last all es c.args.h c.in-Some.row c.in-Some.name c.self.invariant.rise st)

pub returns-clause-rising : goal.returns-clause-rising
returns-clause-rising c = RisesBetween-named 0 _ c.remove_row.new.slots.items _ c.self.invariant.rise
