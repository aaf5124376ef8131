-- A look-up finds one name, and reads the slot of its place.
use Rattle.std.proofs.Common.{◌≡◌, Some, ap, refl, sym, ◌∙◌}
use Rattle.std.proofs.lemmas.Option.{same_Some}
use Rattle.global_handles.specs.Rows.{row_in}
use Rattle.global_handles.specs.Slots.{rows_of}
use Rattle.global_handles.proofs.Slots.{row_in-named}
use Rattle.global_handles.proofs.look_up.Goals as goal

pub returns-in_err-name-clause-none : goal.returns-in_err-name-clause-none
returns-in_err-name-clause-none c = λ _. rw (row_in-named 0 c.requires.0 c.args.slots.now c.args.names.now c.args.h c.requires.1, ← c.in_err-name.ensures) refl

pub returns-in_err-row-clause-none : goal.returns-in_err-row-clause-none
returns-in_err-row-clause-none c = λ _. rw (row_in-named 0 c.requires.0 c.args.slots.now c.args.names.now c.args.h c.requires.1, ← c.in_ok-name.ensures, ← c.in_err-row.ensures) refl

pub returns-clause-some : goal.returns-clause-some
returns-clause-some c = λ e r is.
    let named : row_in (rows_of c.args.slots.now c.args.names.now) c.args.h ≡ Some
    c.in_ok-row.row = rw (row_in-named 0 c.requires.0 c.args.slots.now c.args.names.now c.args.h c.requires.1, ← c.in_ok-name.ensures, ← c.in_ok-row.ensures) refl in
    (sym c.in_ok-name.ensures ∙ ap (λ f. Some f.0) (same_Some _ _ is), named ∙ ap (λ f. Some f.1) (same_Some _ _ is))
