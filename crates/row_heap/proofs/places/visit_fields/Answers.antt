-- One more field is done in each turn.
use Rattle.std.proofs.Common.{◌∙◌, ◌≤◌, ◌∷◌, false, length, take, Some, None, ap, arith}
use Rattle.std.proofs.lemmas.List.{take_all}
use Rattle.std.proofs.lemmas.Option.{slice_get-get_or}
use Rattle.joint_machine.proofs.Members.{Contains-at, take-next}
use Rattle.row_heap.proofs.Marked.{fresh-push, greyed-push}
use Rattle.row_heap.proofs.places.visit_fields.Goals as goal

pub visit_field-requires-clause-held : goal.visit_field-requires-clause-held
visit_field-requires-clause-held c = λ y e.
    let fs = c.args.fields.now in
    let i = c.loop-field.field-index in
    let w = c.requires.held y (Contains-at fs i (Some y) (slice_get-get_or fs i None c.loop-field-test.true ∙ ap (λ o. Some o) e)) in
    (w.0, omega (arith, w.1, c.loop-field.invariant.marks_len))

pub loop-field-preserved : goal.loop-field-preserved
loop-field-preserved c =
    let fs = c.args.fields.now in
    let i = c.loop-field.field-index in
    let v = c.loop-field.invariant in
    let more = take-next fs i _ (slice_get-get_or fs i None c.loop-field-test.true) in
    record {
      marks_len = c.visit_field.ensures.len.0 ∙ v.marks_len;
      links_len = c.visit_field.ensures.len.1 ∙ v.links_len;
      fresh = rw more (fresh-push (take i fs) _ (false ∷ c.args.marks.now) (false ∷ c.loop-field.marks) (false ∷ c.visit_field.new.marks) v.fresh c.visit_field.ensures.fresh);
      raised = λ k m. c.visit_field.ensures.raised k (v.raised k m);
      greyed = rw more (greyed-push (take i fs) _ _ _ _ _ _ _ _ _ _ v.greyed c.visit_field.ensures.greyed);
    }

pub returns-clause-greyed : goal.returns-clause-greyed
returns-clause-greyed c =
    let fs = c.args.fields.now in
    let all : length fs ≤ c.loop-field.field-index = omega (arith, c.loop-field-test.false) in
    rw take_all at c.loop-field.invariant.greyed
