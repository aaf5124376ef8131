-- The mark at the place is the one that is read there; behind the last there is none.
use Rattle.std.proofs.Common.{◌≡◌, Option, Bool, None, Some, false, get_or, ap, sym, ◌∙◌, arith, slice_get}
use Rattle.std.proofs.lemmas.Option.{none-some, same_Some, slice_get-get_or, slice_get_past}
use Rattle.joint_replay.proofs.marking.is_marked.Goals as goal

abbrev mark_in : Option Bool → Bool
mark_in o = elim o [ None ↦ false | Some b ↦ b ]

pub returns-then-x-marks : goal.returns-then-x-marks
returns-then-x-marks c =
    let marks = c.args.marks.now in
    let here : slice_get marks c.args.x ≡ Some (get_or marks c.args.x false) = slice_get-get_or marks c.args.x false (omega (arith, c.if-x-marks.true)) in
    record { mark = (λ t. here ∙ ap Some t, λ m. same_Some _ _ (sym here ∙ m)); test = sym (ap mark_in here) }

pub returns-else-x-marks : goal.returns-else-x-marks
returns-else-x-marks c =
    let marks = c.args.marks.now in
    let past : slice_get marks c.args.x ≡ None = slice_get_past marks c.args.x (omega (arith, c.if-x-marks.false)) in
    record { mark = (λ t. (cc), λ m. absurd (none-some _ (sym past ∙ m))); test = sym (ap mark_in past) }
