-- What adding a pair answers.
use Rattle.std.specs.Prelude.{◌≡◌, ℕ, List, [], ◌∷◌, ◌++◌, Contains}
use Rattle.xref_list.specs.declared.pairs.Added.{Added}
use Rattle.xref_list.specs.declared.pairs.Added.TheVariants.{New, Old}

-- a pair that was there already stays alone, and a new one is put last
abbrev pub AddsPair : Added → List (ℕ × ℕ) → List (ℕ × ℕ) → ℕ × ℕ → Type 0
AddsPair New before after p = ¬ Contains before p × (after ≡ before ++ p ∷ [])
AddsPair Old before after p = Contains before p × (after ≡ before)
