-- What taking something from the front of a line's words promises. Nothing outside of this crate rests on it.
use Rattle.std.specs.Prelude.{◌≡◌, ◌≢◌, ℕ, List, ◌++◌, Option, Some, None, IfSome, MatchOption}

-- an option has a value
abbrev pub IsThere : {A : Type 0} → Option A → Type 0
IsThere None = ⊥
IsThere (Some x) = Unit {0}

-- a word is read as the value that has this text, exactly
abbrev pub Reads : {A : Type 0} → (A → Type 0) → (A → List ℕ) → List ℕ → Option A → Type 0
Reads good text word result = MatchOption result ((x : _) → good x → text x ≢ word) (λ x. good x × (text x ≡ word))

-- what the words begin with is taken; whatever value they begin with, one is taken, and the same words are left
pub record Takes {A : Type 0} (good : A → Type 0) (text : A → List (List ℕ))
    (old new : List (List ℕ)) (result : Option A) : Type 0 where
  pub sound : IfSome result (λ x. good x × (old ≡ text x ++ new))
  pub complete : (x : A) (rest : List (List ℕ)) → good x → old ≡ text x ++ rest → IsThere result × (new ≡ rest)
