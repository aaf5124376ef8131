-- Which components a class refers to, by edges through classes without an index, and sets that say so. What is
-- reported has an index at its label: components, and heavy classes where they are listed.
use Rattle.std.specs.Prelude.{◌≡◌, ◌≢◌, ◌⊎◌, ◌↔◌, ℕ, ◌+◌, ◌<◌, ◌≤◌, Bool, true, false, List, ◌++◌, length, All}
use Rattle.std.specs.Prelude.{Contains, slice_index, slice_index_or}
use Rattle.joint_machine.specs.Walks.{Reaches}
use Rattle.bridge_graph.specs.Parts.{NodeLeads, row_at}
use Rattle.component_pass.specs.Searching.{unmarked}
use Rattle.component_pass.specs.Gathering.{AimsFrom, AreSets, set_at}
use Rattle.joint_machine.specs.Numbers.{u32_max}

-- stands at the label of a class in place of an index
abbrev pub no_index : ℕ
no_index = u32_max

-- what stands at the label of a node
abbrev pub index_at : List ℕ → List ℕ → ℕ → ℕ
index_at labels indexes x = slice_index indexes (slice_index labels x)

-- the class of a node has no index
abbrev pub IsOpen : List ℕ → List ℕ → ℕ → Type 0
IsOpen labels indexes x = index_at labels indexes x ≡ no_index

-- an edge from a node whose class has no index
abbrev pub Passes : List (List ℕ) → List ℕ → List ℕ → ℕ → ℕ → Type 0
Passes edges labels indexes x y = IsOpen labels indexes x × NodeLeads edges x y

-- through classes without an index one comes from x to a node of what has the index j
abbrev pub ComesOut : List (List ℕ) → List ℕ → List ℕ → ℕ → ℕ → Type 0
ComesOut edges labels indexes x j =
    (y : ℕ) × Reaches (Passes edges labels indexes) x y
    × (IsOpen labels indexes y → ⊥) × (index_at labels indexes y ≡ j)

-- an edge leads out of the class with the label to a node from which one comes to what has the index j
abbrev pub Leaves : List (List ℕ) → ℕ → List ℕ → List ℕ → ℕ → ℕ → Type 0
Leaves edges count labels indexes own j =
    (u : ℕ) × (v : ℕ) × (u < count) × (slice_index labels u ≡ own) × NodeLeads edges u v
    × (slice_index labels v ≡ own → ⊥) × ComesOut edges labels indexes v j

-- the sets of the nodes of the first n classes have exactly what one comes to from them; those of thin nodes and of the
-- other nodes are the empty one
pub record AreShared (edges : List (List ℕ)) (nodes : ℕ) (labels indexes : List ℕ)
    (thin : List Bool) (count n : ℕ) (sets : List ℕ) (lists : List (List ℕ)) : Type 0 where
  pub size : length sets ≡ nodes
  pub exact : (x j : ℕ) → x < nodes → slice_index labels x < n → slice_index_or thin x false ≡ false
      → Contains (set_at count lists (slice_index sets x)) j ↔ ComesOut edges labels indexes x j
  pub rest : (x : ℕ) → x < nodes → (n ≤ slice_index labels x)
      ⊎ (slice_index_or thin x false ≡ true) → slice_index sets x ≡ count

-- the sets of the nodes of the first n classes have only what one comes to from them, and all of it where they have
-- fewer than `many` or something is left
pub record AreCounted (edges : List (List ℕ)) (nodes : ℕ) (labels indexes : List ℕ)
    (many left count n : ℕ) (sets : List ℕ) (lists : List (List ℕ)) : Type 0 where
  pub size : length sets ≡ nodes
  pub sound : (x j : ℕ) → x < nodes → slice_index labels x < n
      → Contains (set_at count lists (slice_index sets x)) j → ComesOut edges labels indexes x j
  pub all : (x j : ℕ) → x < nodes → slice_index labels x < n
      → (length (set_at count lists (slice_index sets x)) < many) ⊎ (0 < left)
      → ComesOut edges labels indexes x j → Contains (set_at count lists (slice_index sets x)) j
  pub rest : (x : ℕ) → x < nodes → n ≤ slice_index labels x → slice_index sets x ≡ count

-- for each of the first n classes that has an index, the set with the number in refs has exactly what the class refers
-- to
pub record AreReferred (nodes : ℕ) (edges : List (List ℕ)) (labels indexes : List ℕ)
    (count n numbers : ℕ) (refs : List ℕ) (lists : List (List ℕ)) : Type 0 where
  pub size : length refs ≡ count
  pub known : (x : ℕ) → x < nodes → (IsOpen labels indexes x → ⊥)
      → slice_index labels x < n → slice_index refs (index_at labels indexes x) < numbers
  pub exact : (x j : ℕ) → x < nodes → (IsOpen labels indexes x → ⊥) → slice_index labels x < n
      → Contains (set_at count lists (slice_index refs (index_at labels indexes x))) j
      ↔ Leaves edges nodes labels indexes (slice_index labels x) j

-- a number for one more set was found: at most one list is new, and stands last
pub record IsFound (sets : List ℕ) (before after : List (List ℕ)) (count numbers number : ℕ) : Type 0 where
  pub valid : AreSets sets after count numbers
  pub known : number < numbers
  pub kept : (k : ℕ) → k < length before → row_at after k ≡ row_at before k
  pub longer : length before ≤ length after
  pub one : length after ≤ length before + 1

-- thin classes have no index, and all nodes of a class are thin or none
pub record AreThin (nodes : ℕ) (labels indexes : List ℕ) (thin : List Bool) : Type 0 where
  pub whole : length thin ≡ nodes
  pub bare : (x : ℕ) → x < nodes → slice_index_or thin x false ≡ true → IsOpen labels indexes x
  pub same : (x y : ℕ) → x < nodes → y < nodes → slice_index labels x ≡ slice_index labels y
      → slice_index_or thin x false ≡ slice_index_or thin y false

-- an edge to a thin node
abbrev pub ThinStep : List (List ℕ) → List Bool → ℕ → ℕ → Type 0
ThinStep edges thin u v = NodeLeads edges u v × (slice_index_or thin v false ≡ true)

-- x is one of the members or is reached from one through thin nodes, and is thin itself then
abbrev pub IsNear : List (List ℕ) → List Bool → List ℕ → ℕ → Type 0
IsNear edges thin members x = (m : ℕ) × Contains members m × Reaches (ThinStep edges thin) m x

-- an edge leads from such a node to one in whose set j is
abbrev pub GathersNear : List (List ℕ) → List Bool → List ℕ → List (List ℕ) → ℕ → List ℕ → ℕ → Type 0
GathersNear edges thin sets lists count members j =
    (number : ℕ) × ((x : ℕ) × IsNear edges thin members x × AimsFrom (row_at edges x) sets number)
    × Contains (set_at count lists number) j

-- the list grew by thin nodes of the row, each of which was marked, and has all of them now
pub record VisitsThin (row : List ℕ) (thin : List Bool) (before : List ℕ)
    (marks : List Bool) (after : List ℕ) (marked : List Bool) : Type 0 where
  pub more : List ℕ
  pub appended : after ≡ before ++ more
  pub from_row : All (λ y. Contains row y × (slice_index_or thin y false ≡ true)) more
  pub whole : (y : ℕ) → Contains row y → slice_index_or thin y false ≡ true → Contains after y
  pub size : length marked ≡ length marks
  pub count : length after + unmarked marked ≡ length before + unmarked marks

-- each index but none is below the count, and stands at one label alone; and each number below the count is the index
-- of some node
pub record AreNumbered (nodes : ℕ) (labels : List ℕ) (rows : ℕ) (indexes : List ℕ) (count : ℕ) : Type 0 where
  pub below : (l : ℕ) → l < rows → slice_index indexes l ≢ no_index → slice_index indexes l < count
  pub apart : (l m : ℕ) → l < rows → m < rows → slice_index indexes l ≢ no_index
      → slice_index indexes l ≡ slice_index indexes m → l ≡ m
  pub onto : (i : ℕ) → i < count → (x : ℕ) × (x < nodes) × (index_at labels indexes x ≡ i)

-- the pairs lead from each index to exactly what its class refers to
pub record AreReferences (edges : List (List ℕ)) (nodes : ℕ)
    (labels indexes : List ℕ) (count : ℕ) (pairs : List (ℕ × ℕ)) : Type 0 where
  pub sources : (i j : ℕ) → Contains pairs (i, j) → i < count
  pub exact : (x j : ℕ) → x < nodes → (IsOpen labels indexes x → ⊥)
      → Contains pairs (index_at labels indexes x, j) ↔ Leaves edges nodes labels indexes (slice_index labels x) j

-- the pairs of the first n sources, each with what its set has
pub record AreListedBelow (set : ℕ → List ℕ) (n : ℕ) (pairs : List (ℕ × ℕ)) : Type 0 where
  pub exact : (i j : ℕ) → Contains pairs (i, j) ↔ ((i < n) × Contains (set i) j)
