use Rattle.std.proofs.Common.{ap, ◌∙◌}
use Rattle.heap_pictures.specs.Pictures.{Drawing}
use Rattle.picture_text.specs.Texts.{object_text}
use Rattle.picture_text.proofs.Chains.{changed}
use Rattle.picture_text.proofs.texts.put_sheet_objects.Goals as goal

pub returns : goal.returns
returns c =
    changed object_text _ _ _ _ _ _ _ _ _ _
    (c.objects.ensures ∙ ap (λ (d : Drawing). d.objects) c.stay.ensures)
    (c.objects-2.ensures ∙ ap (λ (d : Drawing). d.objects) c.came.ensures)
    (c.objects-3.ensures ∙ ap (λ (d : Drawing). d.objects) c.went.ensures)
    c.in_ok-put_objects.ensures c.in_ok-put_objects-2.ensures c.in_ok-put_objects-3.ensures
