-- Heavy classes, put in place by pairs.
use Rattle.std.specs.Prelude.{◌≡◌, ◌≢◌, ℕ, ◌<◌, ◌≤◌, ◌↔◌, Bool, ◌&&◌, not, nat_lt, nat_eq, List, length, Contains}
use Rattle.joint_machine.specs.Components.{IsCanonical, IsMember, IsPlainClass, Leads, PairsRise, first_at}
use Rattle.joint_machine.specs.Walks.{Mutual, Reached}
use Rattle.bridge_graph.specs.declared.packing.Link.{Link}
use Rattle.pass_c.specs.declared.arrays.PassCounts.{PassCounts}
use Rattle.pass_c.specs.Found.{AreCounted, AreShort, AreWritten, all_of}
use Rattle.array_graphs.specs.Graphs.{LeadsInRow}

-- one comes from i to y over cross-references, past what stands from n on alone: past components without members
abbrev pub Through : List (ℕ × ℕ) → ℕ → ℕ → ℕ → Type 0
Through pairs n i y = Reached (λ z. Contains pairs (i, z)) (λ x z. (n ≤ x) × Contains pairs (x, z)) y

-- the pairs of different components below n of which one comes from the first to the second, in order
pub record AreExpanded (pairs : List (ℕ × ℕ)) (n : ℕ) (out : List (ℕ × ℕ)) : Type 0 where
  pub rising : PairsRise out
  pub exact : (i j : ℕ) → Contains out (i, j) ↔ ((i < n) × (j < n) × (i ≢ j) × Through pairs n i j)

-- a step of the search, in rows
abbrev pub Passes : List ℕ → List ℕ → ℕ → ℕ → ℕ → Type 0
Passes starts targets n x z = (n ≤ x) × LeadsInRow starts targets x z

-- the pairs from the components below i
pub record AreExpandedBelow (starts targets : List ℕ) (n i : ℕ) (out : List (ℕ × ℕ)) : Type 0 where
  pub rising : PairsRise out
  pub exact : (a b : ℕ) → Contains out (a, b)
      ↔ ((a < i) × (b < n) × (a ≢ b) × Reached (LeadsInRow starts targets a) (Passes starts targets n) b)

-- whether it is another component below n
abbrev pub is_other : ℕ → ℕ → ℕ → Bool
is_other n i y = nat_lt y n && not (nat_eq y i)

-- a component refers to another where heavy classes aren't reported: they differ, and some walk leads from the class of
-- the first to the class of the second whose nodes between lie in classes without a bridge node
abbrev pub IsJoined : (ℕ → Type 0) → (ℕ → ℕ → Type 0) → ℕ → ℕ → Type 0
IsJoined bridge edge a b = (Mutual edge a b → ⊥) × Leads edge (IsPlainClass bridge edge) a b

-- the components of a graph and their cross-references where heavy classes aren't reported, each in its place
pub record IsExpansion (bridge : ℕ → Type 0) (edge : ℕ → ℕ → Type 0)
    (comps : List (List ℕ)) (pairs : List (ℕ × ℕ)) : Type 0 where
  pub canonical : IsCanonical comps pairs
  pub members : (x : ℕ) → ((i : ℕ) × IsMember comps i x) ↔ bridge x
  pub together : (i j x y : ℕ) → IsMember comps i x → IsMember comps j y → (i ≡ j) ↔ Mutual edge x y
  pub references : (i j : ℕ) → Contains pairs (i, j)
      ↔ ((i < length comps) × (j < length comps) × IsJoined bridge edge (first_at comps i) (first_at comps j))

-- what was found is the expansion of the graph, and stands in the arrays with its numbers
pub record FoundExpanded (bridge : ℕ → Type 0) (edge : ℕ → ℕ → Type 0)
    (starts members : List ℕ) (xrefs : List Link) (counts : PassCounts) : Type 0 where
  pub comps : List (List ℕ)
  pub pairs : List (ℕ × ℕ)
  pub exact : IsExpansion bridge edge comps pairs
  pub counted : AreCounted comps 0 pairs counts
  pub written : AreWritten (all_of comps 0) pairs starts members xrefs

-- an array has too few places for the expansion of the graph, of which the numbers are told
pub record LacksExpanded (bridge : ℕ → Type 0) (edge : ℕ → ℕ → Type 0)
    (starts members : List ℕ) (xrefs : List Link) (counts : PassCounts) : Type 0 where
  pub comps : List (List ℕ)
  pub pairs : List (ℕ × ℕ)
  pub exact : IsExpansion bridge edge comps pairs
  pub counted : AreCounted comps 0 pairs counts
  pub short : AreShort starts members xrefs counts
