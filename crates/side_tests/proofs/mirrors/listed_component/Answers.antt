-- The only component was put last, and there is no pair.
use Rattle.std.proofs.Common.{◌≡◌, ℕ, List, [], length, refl, ap, ◌∙◌}
use Rattle.std.proofs.lemmas.List.{nil_from_length}
use Rattle.std.proofs.lemmas.List.Sorted.{length_permutation}
use Rattle.side_tests.specs.Circles.{circle}
use Rattle.side_tests.proofs.mirrors.listed_component.Goals as goal

pub returns-clause-comps : goal.returns-clause-comps
unfolding circle
returns-clause-comps c = rw (c.in_ok-listing.ensures.comps, c.in_ok-component.ensures.comps, c.new-builder.ensures.comps) refl

pub returns-clause-pairs : goal.returns-clause-pairs
returns-clause-pairs c =
    let before : c.component.new.self.pairs ≡ [] = c.component.ensures.pairs ∙ c.new-builder.ensures.pairs in
    let same = length_permutation _ _ c.in_ok-listing.ensures.pairs in
    nil_from_length _ (same ∙ ap (λ (l : List (ℕ × ℕ)). length l) before)
