use Rattle.std.proofs.Common.{ap, subst, ◌∙◌, ◌≡◌, Option, Some}
use Rattle.std.specs.Prelude.{MatchOption}
use Rattle.picture_text.specs.Texts.{sheet_text}
use Rattle.picture_program.specs.Drawn.{IsPartOf}
use Rattle.picture_program.proofs.drawing.draw_sheet.Goals as goal

-- what is said of what was found
found : {T : Type 0} (A : Type 0) (B : T → Type 0) (o : Option T) (x : T) → o ≡ Some x → MatchOption o A B → B x
found A B o x e m = subst (λ z. MatchOption z A B) e m

pub returns-in_ok-text-in-Some : goal.returns-in_ok-text-in-Some
returns-in_ok-text-in-Some c = record {
  size = c.requires.size;
  whole = c.args.sheet;
  drawn = c.requires.drawn;
  part = c.in-Some.part;
  around = found _ (IsPartOf c.args.request.around c.args.sheet) _ _ c.in-Some.is c.in_ok-part_of.ensures;
  is = c.in_ok-text-in-Some.ensures ∙ ap (λ t. sheet_text t c.in-Some.part) (c.as_slice.ensures.value ∙ c.in_ok-title-in-Some.ensures);
}
