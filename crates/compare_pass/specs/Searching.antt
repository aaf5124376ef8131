-- A search from one node, through its own class and through classes without an index.
use Rattle.std.specs.Prelude.{◌≡◌, ◌⊎◌, ◌↔◌, ℕ, ◌+◌, Bool, true, false, cond, List, [], ◌∷◌, ◌++◌, length, All}
use Rattle.std.specs.Prelude.{Contains, slice_index, slice_index_or}
use Rattle.joint_machine.specs.Walks.{Reaches}
use Rattle.bridge_graph.specs.Parts.{NodeLeads}
use Rattle.joint_machine.specs.Numbers.{u32_max}

-- stands at the label of a class in place of an index
abbrev pub no_index : ℕ
no_index = u32_max

-- what stands at the label of a node
abbrev pub index_at : List ℕ → List ℕ → ℕ → ℕ
index_at labels indexes x = slice_index indexes (slice_index labels x)

-- the search goes on from x: its class is the search's own, or has no index
abbrev pub Opens : List ℕ → List ℕ → ℕ → ℕ → Type 0
Opens labels indexes own x = (slice_index labels x ≡ own) ⊎ (index_at labels indexes x ≡ no_index)

-- an edge that the search takes
abbrev pub Goes : List (List ℕ) → List ℕ → List ℕ → ℕ → ℕ → ℕ → Type 0
Goes edges labels indexes own x y = Opens labels indexes own x × NodeLeads edges x y

-- how many nodes are not marked
abbrev pub unmarked : List Bool → ℕ
unmarked [] = 0
unmarked (m ∷ marks) = cond m 0 1 + unmarked marks

-- exactly the nodes of the list are marked, and each stands once
pub record AreMarked (marks : List Bool) (found : List ℕ) : Type 0 where
  pub listed : (y : ℕ) → slice_index_or marks y false ≡ true → Contains found y
  pub marked : All (λ y. slice_index_or marks y false ≡ true) found
  pub count : length found + unmarked marks ≡ length marks

-- the list grew by nodes of the row, and has the whole row now
pub record Visits (row before after : List ℕ) : Type 0 where
  pub more : List ℕ
  pub appended : after ≡ before ++ more
  pub from_row : All (Contains row) more
  pub whole : All (Contains after) row

-- exactly the nodes that are reached from the start are listed and marked
pub record FindsReached (step : ℕ → ℕ → Type 0) (start : ℕ) (marks : List Bool) (found : List ℕ) : Type 0 where
  pub exact : (y : ℕ) → Contains found y ↔ Reaches step start y
  pub marking : AreMarked marks found
