-- Nodes that are found and marked.
use Rattle.std.specs.Prelude.{◌≡◌, ℕ, ◌+◌, Bool, true, false, cond, List, [], ◌∷◌, ◌++◌, length, All, Contains}
use Rattle.std.specs.Prelude.{slice_index_or}

-- how many nodes are not marked
abbrev pub unmarked : List Bool → ℕ
unmarked [] = 0
unmarked (m ∷ marks) = cond m 0 1 + unmarked marks

-- exactly the nodes of the list are marked, and each stands once
pub record AreMarked (marks : List Bool) (found : List ℕ) : Type 0 where
  pub listed : (y : ℕ) → slice_index_or marks y false ≡ true → Contains found y
  pub marked : All (λ y. slice_index_or marks y false ≡ true) found
  pub count : length found + unmarked marks ≡ length marks

-- the list grew by nodes of the row, and has the whole row now
pub record Visits (row before after : List ℕ) : Type 0 where
  pub more : List ℕ
  pub appended : after ≡ before ++ more
  pub from_row : All (Contains row) more
  pub whole : All (Contains after) row
