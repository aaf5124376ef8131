-- The row of a number that is in the table stands in the slot to which its name leads.
use Rattle.std.proofs.Common.{Some, None, ap, sym, ◌∙◌}
use Rattle.std.proofs.lemmas.Option.{none-some, same_Some, slice_get-get_or}
use Rattle.global_handles.specs.declared.Slot.{Slot}
use Rattle.global_handles.proofs.Slots.{named-some, some_row, stands}
use Rattle.global_handles.proofs.look_up_there.Goals as goal

abbrev none : Slot
none = record { peer = record { 0 = 0 }; next = 0; previous = 0; row = None }

pub find_there-name-requires-clause-there : goal.find_there-name-requires-clause-there
find_there-name-requires-clause-there c = named-some c.requires.rise.0 c.args.slots.now c.args.names.now c.args.h c.requires.rise.1 c.requires.there

pub bounds-slots-name : goal.bounds-slots-name
bounds-slots-name c =
    let row = some_row _ c.requires.there in
    (stands c.requires.rise.0 c.args.slots.now c.args.names.now c.args.h row.0 c.find_there-name.result c.requires.rise.1 c.find_there-name.ensures row.1).within

pub unreachable-requires : goal.unreachable-requires
unreachable-requires c =
    let ss = c.args.slots.now in
    let row = some_row _ c.requires.there in
    let st = stands c.requires.rise.0 ss c.args.names.now c.args.h row.0 c.find_there-name.result c.requires.rise.1 c.find_there-name.ensures row.1 in
    let same = same_Some st.slot _ (sym st.there ∙ slice_get-get_or ss c.find_there-name.result.place none st.within) in
    none-some st.kept (sym c.in_default.is ∙ (rw same at st.row))

pub returns-clause-row : goal.returns-clause-row
returns-clause-row c =
    let ss = c.args.slots.now in
    let row = some_row _ c.requires.there in
    let st = stands c.requires.rise.0 ss c.args.names.now c.args.h row.0 c.find_there-name.result c.requires.rise.1 c.find_there-name.ensures row.1 in
    let same = same_Some st.slot _ (sym st.there ∙ slice_get-get_or ss c.find_there-name.result.place none st.within) in
    let kept = same_Some st.kept c.in-Some.kept (sym st.row ∙ (rw (← same) at c.in-Some.is)) in
    rw (c.row.ensures, ← same, ← kept) (row.1 ∙ ap (λ r. Some r) (sym st.is))
