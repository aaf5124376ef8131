-- What taking all that a source has, up to a limit, does to it.
-- Believed: the clauses of the program's top call rest on all that stands here.
use Rattle.std.specs.Prelude.{◌≡◌, ℕ, ◌+◌, ◌≤◌, ◌⊎◌, List, length, Option}
use Rattle.std.specs.Io.KnownBytes.{Consumes, IsAtEnd}

-- these bytes were taken from a source: to its end, or up to one byte past the limit
pub record Took (most : ℕ) (left rest : Option (List ℕ)) (input : List ℕ) : Type 0 where
  pub taken : Consumes left rest input
  pub stopped : IsAtEnd rest ⊎ (length input ≡ most + 1)
  pub size : length input ≤ most + 1
