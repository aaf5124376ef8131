-- Components of bridge nodes and their cross-references, as lists.
use Rattle.std.specs.Prelude.{◌≢◌, ◌-◌, ℕ, ◌+◌, ◌<◌, ◌≤◌, List, length, map, All, AllPairs, Contains}
use Rattle.joint_machine.specs.Components.{IsCanonical, Rises, first_of}
use Rattle.joint_machine.specs.Numbers.{u32_max}

-- the members of each component, how many components without members come behind them, and the pairs of component
-- indexes
pub record Listing : Type 0 where
  pub comps : List (List ℕ)
  pub heavy : ℕ
  pub pairs : List (ℕ × ℕ)

-- no number stands in both lists
abbrev pub AreDisjoint : List ℕ → List ℕ → Type 0
AreDisjoint xs ys = (x : ℕ) → Contains xs x → Contains ys x → ⊥

-- a pair of different components
pub record IsBetween (count : ℕ) (p : ℕ × ℕ) : Type 0 where
  pub source : p.0 < count
  pub destination : p.1 < count
  pub apart : p.0 ≢ p.1

-- components in their order: members rise and are below 4,294,967,294, there is at least one, first members rise,
-- and no node is in two components
pub record AreComponents (comps : List (List ℕ)) : Type 0 where
  pub members : All Rises comps
  pub some : All (λ members. 0 < length members) comps
  pub order : Rises (map first_of comps)
  pub below : All (λ members. All (λ x. x < u32_max - 1) members) comps
  pub apart : AllPairs AreDisjoint comps

-- what every list of components and cross-references keeps: both in canonical order, no node in two
-- components, each pair between two different components, and at most 4,294,967,294 components
pub record IsListing (comps : List (List ℕ)) (heavy : ℕ) (pairs : List (ℕ × ℕ)) : Type 0 where
  pub canonical : IsCanonical comps pairs
  pub components : AreComponents comps
  pub ends : All (IsBetween (length comps + heavy)) pairs
  pub few : length comps + heavy ≤ u32_max - 1
