-- The row stands in a slot, to which its name leads: where it isn't cleared that slot keeps the new row, and the last
-- name leads there.
use Rattle.std.proofs.Common.{◌≡◌, ◌+◌, [], ◌∷◌, ◌++◌, Some, true, false, length, refl, sym, ap, ◌∙◌, arith}
use Rattle.std.proofs.lemmas.List.{length_push}
use Rattle.std.proofs.lemmas.Option.{same_Some}
use Rattle.joint_machine.specs.declared.names.HNum.{HNum}
use Rattle.joint_machine.proofs.Deciding.{true_false}
use Rattle.global_handles.specs.declared.Back.{Back}
use Rattle.global_handles.specs.declared.Back.TheVariants.{Alive, Cleared}
use Rattle.global_handles.specs.Rows.{row_in, cleared_in, is_alive, renewed}
use Rattle.global_handles.specs.Slots.{rows_of, NamesRise}
use Rattle.global_handles.proofs.Slots.{ArePlaced-push, NamesRise-push, RisesBetween-named, kept-cleared, kept_anew, name_anew, renewed-rows, length-renewed, stands_still, Stands}
use Rattle.global_handles.proofs.Chains.{IsChained-with_row, length-with_row, open-kept}
use Rattle.global_handles.proofs.HandleTable.restore.Goals as goal

-- the number that a restore answers
abbrev given_by : Back → HNum
given_by (Alive g) = g
given_by Cleared = record { 0 = 0 }

pub look_up_there-requires-clause-there : goal.look_up_there-requires-clause-there
look_up_there-requires-clause-there c = rw (c.as_slice.ensures.value, c.as_slice-2.ensures.value) (rw (← c.self.view_is) at c.requires.there)

pub returns-then-row-clause-peer : goal.returns-then-row-clause-peer
returns-then-row-clause-peer c =
    let old = rw (c.as_slice.ensures.value, c.as_slice-2.ensures.value) at c.look_up_there.ensures in
    rw (← c.self.view_is, old.row) refl

pub returns-then-row-clause-cleared : goal.returns-then-row-clause-cleared
returns-then-row-clause-cleared c =
    let old = rw (c.as_slice.ensures.value, c.as_slice-2.ensures.value) at c.look_up_there.ensures in
    let cleared : cleared_in c.args.self.now.rows c.args.h ≡ Some true = rw (← c.self.view_is, old.row, c.if-row.true) refl in
    (λ _. cleared, λ _. refl)

pub returns-clause-peer : goal.returns-clause-peer
returns-clause-peer c =
    let old = rw (c.as_slice.ensures.value, c.as_slice-2.ensures.value) at c.look_up_there.ensures in
    rw (← c.self.view_is, old.row) refl

pub returns-clause-cleared : goal.returns-clause-cleared
returns-clause-cleared c =
    let old = rw (c.as_slice.ensures.value, c.as_slice-2.ensures.value) at c.look_up_there.ensures in
    let uncleared : cleared_in c.args.self.now.rows c.args.h ≡ Some false = rw (← c.self.view_is, old.row, c.if-row.false) refl in
    (λ is. absurd (true_false (ap is_alive is)), λ is. absurd (true_false (same_Some true false (sym is ∙ uncleared))))

pub set_row-requires : goal.set_row-requires
set_row-requires c =
    let last = c.self.inside.last in
    let all = c.self.inside.slots.items in
    let es = c.make_gap.new.names.items in
    let old = rw (c.as_slice.ensures.value, c.as_slice-2.ensures.value) at c.look_up_there.ensures in
    let rise : NamesRise 0 last es = c.make_gap.ensures.rise _ c.self.invariant.rise in
    let rows : rows_of all es ≡ rows_of all c.self.inside.names.items = rw c.as_slice-3.ensures.value at c.make_gap.ensures.rows in
    let left = rw c.as_slice-3.ensures.value at (c.make_gap.ensures.found c.args.h c.look_up_there.result.0 old.name) in
    let st : Stands all es c.args.h c.look_up_there.result.1 c.look_up_there.result.0 = stands_still last all c.self.inside.names.items
    es c.args.h c.look_up_there.result.1 c.look_up_there.result.0 c.self.invariant.rise rise old.name old.row left rows in
    st.within

pub invariant_of-self : goal.invariant_of-self
invariant_of-self c =
    let last = c.self.inside.last in
    let all = c.self.inside.slots.items in
    let es = c.make_gap.new.names.items in
    let old = rw (c.as_slice.ensures.value, c.as_slice-2.ensures.value) at c.look_up_there.ensures in
    let rise : NamesRise 0 last es = c.make_gap.ensures.rise _ c.self.invariant.rise in
    let rows : rows_of all es ≡ rows_of all c.self.inside.names.items = rw c.as_slice-3.ensures.value at c.make_gap.ensures.rows in
    let left = rw c.as_slice-3.ensures.value at (c.make_gap.ensures.found c.args.h c.look_up_there.result.0 old.name) in
    let st : Stands all es c.args.h c.look_up_there.result.1 c.look_up_there.result.0 = stands_still last all c.self.inside.names.items
    es c.args.h c.look_up_there.result.1 c.look_up_there.result.0 c.self.invariant.rise rise old.name old.row left rows in
    let i = c.self.invariant in
    let name = c.look_up_there.result.0 in
    let row : row_in (rows_of all es) c.args.h ≡ Some c.look_up_there.result.1 = rw rows old.row in
    let kept = kept-cleared all es c.args.h c.look_up_there.result.1 name st in
    let e = c.set_row.ensures.items in
    let len = length-with_row all name.place (Some (kept_anew (last + 1))) in
    let names : c.push_reserved.new.self.items ≡ es ++ name_anew (last + 1) name ∷ [] = c.push_reserved.ensures.items in
    record {
      most = rw e (omega (arith, len));
      counted = rw (e, names) (omega (arith, length-renewed last (last + 1) all es c.args.h c.look_up_there.result.1 name rise (omega arith) st row c.if-row.false, i.counted, ap length rows));
      few = rw e (omega (arith, len, i.few));
      rise = rw names (NamesRise-push 0 last (last + 1) es (name_anew (last + 1) name) (omega arith) (omega arith) rise);
      placed = rw (e, names, len) (ArePlaced-push (length all) es (name_anew (last + 1) name) st.within (c.make_gap.ensures.placed _ i.placed));
      twice = rw (e, names) (omega (arith, len, length_push es (name_anew (last + 1) name), rw c.as_slice-3.ensures.value at c.make_gap.ensures.gap));
      chained = rw e (IsChained-with_row all name.place (Some (kept_anew (last + 1))) _ (open-kept all name.place st.kept (kept_anew (last + 1)) kept.0 (sym c.if-row.false ∙ kept.1)) i.chained);
      slots_room = omega (arith, i.slots_room, ap length e, len, c.set_row.ensures.capacity);
      names_room = omega (arith, i.names_room, ap length e, len, c.make_gap.ensures.capacity, c.push_reserved.ensures.capacity);
      heads_most = i.heads_most;
      heads_room = i.heads_room;
    }

pub returns-clause-anew : goal.returns-clause-anew
returns-clause-anew c =
    let last = c.self.inside.last in
    let all = c.self.inside.slots.items in
    let es = c.make_gap.new.names.items in
    let old = rw (c.as_slice.ensures.value, c.as_slice-2.ensures.value) at c.look_up_there.ensures in
    let rise : NamesRise 0 last es = c.make_gap.ensures.rise _ c.self.invariant.rise in
    let rows : rows_of all es ≡ rows_of all c.self.inside.names.items = rw c.as_slice-3.ensures.value at c.make_gap.ensures.rows in
    let left = rw c.as_slice-3.ensures.value at (c.make_gap.ensures.found c.args.h c.look_up_there.result.0 old.name) in
    let st : Stands all es c.args.h c.look_up_there.result.1 c.look_up_there.result.0 = stands_still last all c.self.inside.names.items
    es c.args.h c.look_up_there.result.1 c.look_up_there.result.0 c.self.invariant.rise rise old.name old.row left rows in
    let row : row_in (rows_of all es) c.args.h ≡ Some c.look_up_there.result.1 = rw rows old.row in
    let anew : rows_of c.set_row.new.slots.items c.push_reserved.new.self.items ≡ renewed c.args.h
    (record { 0 = last + 1 }) c.args.self.now.rows = rw (c.set_row.ensures.items, c.push_reserved.ensures.items, ← c.self.view_is, ← rows)
    (renewed-rows last (last + 1) all es c.args.h c.look_up_there.result.1 c.look_up_there.result.0 rise (omega arith) st row c.if-row.false) in
    let last_is : last + 1 ≡ c.args.self.now.last + 1 = rw (← c.self.view_is) refl in
    λ g is. let same : record { 0 = last + 1 } ≡ g = ap given_by is in
    (rw (← same) anew, rw (← same) last_is, last_is)

pub returns-clause-made : goal.returns-clause-made
returns-clause-made c = rw (c.set_row.ensures.items, ← c.self.view_is) (length-with_row c.self.inside.slots.items _ _)

pub returns-clause-rising : goal.returns-clause-rising
returns-clause-rising c =
    let last = c.self.inside.last in
    let rise : NamesRise 0 last c.make_gap.new.names.items = c.make_gap.ensures.rise _ c.self.invariant.rise in
    rw c.push_reserved.ensures.items (RisesBetween-named 0 _ c.set_row.new.slots.items _
    (NamesRise-push 0 last (last + 1) c.make_gap.new.names.items (name_anew (last + 1) c.look_up_there.result.0) (omega arith) (omega arith) rise))
