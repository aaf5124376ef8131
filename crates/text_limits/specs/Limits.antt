-- A text that is longer than a limit: the lines before the one that holds the first byte behind the limit.
-- Believed: the clauses of the program's top call rest on all that stands here.
use Rattle.std.specs.Prelude.{◌≡◌, ◌≢◌, ℕ, ◌≤◌, ◌⊎◌, List, [], ◌∷◌, ◌++◌, length, take, drop, All}

-- there is no byte, or the last one is a newline
abbrev pub AreClosed : List ℕ → Type 0
AreClosed front = (front ≡ []) ⊎ ((text : List ℕ) × (front ≡ text ++ 10 ∷ []))

-- these are the lines before the one that holds the first byte behind the limit: no newline stands between them and the
-- limit
pub record IsFrontOf (most : ℕ) (bytes front : List ℕ) : Type 0 where
  pub rest : List ℕ
  pub whole : bytes ≡ front ++ rest
  pub closed : AreClosed front
  pub fits : length front ≤ most
  pub line : All (λ b. b ≢ 10) (drop (length front) (take most bytes))
