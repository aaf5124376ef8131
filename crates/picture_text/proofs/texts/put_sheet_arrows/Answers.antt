use Rattle.std.proofs.Common.{ap, ◌∙◌}
use Rattle.heap_pictures.specs.Pictures.{Drawing}
use Rattle.picture_text.specs.Texts.{arrow_text}
use Rattle.picture_text.proofs.Chains.{changed}
use Rattle.picture_text.proofs.texts.put_sheet_arrows.Goals as goal

pub returns : goal.returns
returns c =
    changed arrow_text _ _ _ _ _ _ _ _ _ _
    (c.arrows.ensures ∙ ap (λ (d : Drawing). d.arrows) c.stay.ensures)
    (c.arrows-2.ensures ∙ ap (λ (d : Drawing). d.arrows) c.came.ensures)
    (c.arrows-3.ensures ∙ ap (λ (d : Drawing). d.arrows) c.went.ensures)
    c.in_ok-put_arrows.ensures c.in_ok-put_arrows-2.ensures c.in_ok-put_arrows-3.ensures
