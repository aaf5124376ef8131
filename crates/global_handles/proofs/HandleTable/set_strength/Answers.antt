-- The row stands in a slot, to which its name leads: what that slot keeps is written.
use Rattle.std.proofs.Common.{Some, sym, ap, length, ◌∙◌, arith}
use Rattle.std.proofs.lemmas.List.{length-map}
use Rattle.global_handles.specs.Slots.{rows_of}
use Rattle.global_handles.proofs.Slots.{RisesBetween-named, by-strength, kept-cleared, stands, strength-rows, strong_as}
use Rattle.global_handles.proofs.Chains.{IsChained-with_row, length-with_row, open-kept}
use Rattle.global_handles.proofs.HandleTable.set_strength.Goals as goal

pub look_up_there-requires-clause-there : goal.look_up_there-requires-clause-there
look_up_there-requires-clause-there c = rw (c.as_slice.ensures.value, c.as_slice-2.ensures.value) (rw (← c.self.view_is) at c.requires)

pub put_strength-requires-clause-within : goal.put_strength-requires-clause-within
put_strength-requires-clause-within c =
    let row = rw (c.as_slice.ensures.value, c.as_slice-2.ensures.value) at c.look_up_there.ensures.row in
    let found = rw c.as_slice.ensures.value at c.look_up_there.ensures.name in
    (stands c.self.inside.last c.self.inside.slots.items c.self.inside.names.items c.args.h c.look_up_there.result.1 c.look_up_there.result.0 c.self.invariant.rise found row).within

pub put_strength-requires-clause-same : goal.put_strength-requires-clause-same
put_strength-requires-clause-same c =
    let row = rw (c.as_slice.ensures.value, c.as_slice-2.ensures.value) at c.look_up_there.ensures.row in
    let found = rw c.as_slice.ensures.value at c.look_up_there.ensures.name in
    let st = stands c.self.inside.last c.self.inside.slots.items c.self.inside.names.items c.args.h c.look_up_there.result.1 c.look_up_there.result.0 c.self.invariant.rise found row in
    by-strength c.self.inside.slots.items c.self.inside.names.items c.args.h c.look_up_there.result.1 c.look_up_there.result.0 c.args.strength st

pub invariant_of-self : goal.invariant_of-self
invariant_of-self c =
    let all = c.self.inside.slots.items in
    let es = c.self.inside.names.items in
    let i = c.self.invariant in
    let row = rw (c.as_slice.ensures.value, c.as_slice-2.ensures.value) at c.look_up_there.ensures.row in
    let found = rw c.as_slice.ensures.value at c.look_up_there.ensures.name in
    let name = c.look_up_there.result.0 in
    let st = stands c.self.inside.last all es c.args.h c.look_up_there.result.1 name i.rise found row in
    let k' = strong_as c.args.h c.look_up_there.result.1 c.args.strength in
    let kept = kept-cleared all es c.args.h c.look_up_there.result.1 name st in
    let e = c.put_strength.ensures.items in
    let len = length-with_row all name.place (Some k') in
    record {
      most = rw e (omega (arith, len));
      counted = rw (e, strength-rows c.self.inside.last all es c.args.h c.look_up_there.result.1 name c.args.strength i.rise st) (i.counted ∙ sym (length-map (rows_of all es) _));
      few = rw e (omega (arith, len, i.few));
      rise = i.rise;
      placed = rw (e, len) i.placed;
      twice = rw e (omega (arith, len, i.twice));
      chained = rw e (IsChained-with_row all name.place (Some k') _ (open-kept all name.place st.kept k' kept.0 kept.1) i.chained);
      slots_room = omega (arith, i.slots_room, ap length e, len, c.put_strength.ensures.capacity);
      names_room = omega (arith, i.names_room, ap length e, len);
      heads_most = i.heads_most;
      heads_room = i.heads_room;
    }

pub returns-clause-rows : goal.returns-clause-rows
returns-clause-rows c =
    let all = c.self.inside.slots.items in
    let es = c.self.inside.names.items in
    let row = rw (c.as_slice.ensures.value, c.as_slice-2.ensures.value) at c.look_up_there.ensures.row in
    let found = rw c.as_slice.ensures.value at c.look_up_there.ensures.name in
    let st = stands c.self.inside.last all es c.args.h c.look_up_there.result.1 c.look_up_there.result.0 c.self.invariant.rise found row in
    rw (c.put_strength.ensures.items, ← c.self.view_is) (strength-rows c.self.inside.last all es c.args.h c.look_up_there.result.1 c.look_up_there.result.0 c.args.strength c.self.invariant.rise st)

pub returns-clause-made : goal.returns-clause-made
returns-clause-made c = rw (c.put_strength.ensures.items, ← c.self.view_is) (length-with_row c.self.inside.slots.items _ _)

pub returns-clause-rising : goal.returns-clause-rising
returns-clause-rising c = RisesBetween-named 0 _ c.put_strength.new.slots.items _ c.self.invariant.rise
