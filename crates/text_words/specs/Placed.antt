-- The first line of bytes, and what stands behind it.
-- Believed: the clauses of the program's top call rest on all that stands here.
use Rattle.std.specs.Prelude.{◌≡◌, ◌≢◌, ℕ, Bool, true, false, List, [], ◌∷◌, ◌++◌, All}

-- bytes are a line and what is left behind it: a line is closed by its newline, and one that isn't is all of them
abbrev pub IsCut : List ℕ → List ℕ → Bool → List ℕ → Type 0
IsCut bytes text true left = bytes ≡ text ++ (10 ∷ left)
IsCut bytes text false left = (bytes ≡ text) × (left ≡ [])

-- the first line of bytes: it has no newline in it, and there is a byte or its newline
pub record IsFirstLine (bytes text : List ℕ) (closed : Bool) (left : List ℕ) : Type 0 where
  pub some : bytes ≢ []
  pub whole : All (λ b. b ≢ 10) text
  pub cut : IsCut bytes text closed left
