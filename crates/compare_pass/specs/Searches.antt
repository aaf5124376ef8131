-- A depth first search along the edges, and what the order of finishing tells: behind all that a node reaches some node
-- of its class stands. (Kosaraju and Sharir; textbook.)
use Rattle.std.specs.Prelude.{◌≡◌, ◌⊎◌, ◌↔◌, ℕ, ◌+◌, ◌<◌, ◌≤◌, Bool, true, false, cond, List, [], ◌∷◌, length, map, All}
use Rattle.std.specs.Prelude.{Contains, Some, slice_get, slice_index, slice_index_or}
use Rattle.joint_machine.specs.Walks.{Reaches, Mutual}
use Rattle.bridge_graph.specs.Parts.{NodeLeads, row_at}
use Rattle.compare_pass.specs.declared.finishing.Frame.{Frame}

-- y stands at or before z in the list
abbrev pub StandsBefore : List ℕ → ℕ → ℕ → Type 0
StandsBefore finished y z = (i : ℕ) × (j : ℕ)
    × (slice_get finished i ≡ Some y) × (slice_get finished j ≡ Some z) × (i ≤ j)

-- some node of the class of x stands behind all that x reaches
abbrev pub IsServed : (ℕ → ℕ → Type 0) → List ℕ → ℕ → Type 0
IsServed edge finished x = (z : ℕ) × Mutual edge x z × ((y : ℕ) → Reaches edge x y → StandsBefore finished y z)

-- the class of x has a node in whose search the search still is
abbrev pub IsOpenIn : (ℕ → ℕ → Type 0) → List ℕ → ℕ → Type 0
IsOpenIn edge frames x = (g : ℕ) × Contains frames g × Mutual edge x g

-- each node that the search is in is reached by those below it; the top stands first
abbrev pub ArePath : (ℕ → ℕ → Type 0) → List ℕ → Type 0
ArePath edge [] = Unit {0}
ArePath edge (v ∷ below) = All (λ g. Reaches edge g v) below × ArePath edge below

-- what a search along the edges keeps: the finished nodes, earliest first, and those that it is in
pub record IsSearching (edge : ℕ → ℕ → Type 0) (finished frames : List ℕ) : Type 0 where
  pub path : ArePath edge frames
  pub closed : (x y : ℕ) → Contains finished x → edge x y → Contains finished y ⊎ Contains frames y
  pub served : (x : ℕ) → Contains finished x → IsOpenIn edge frames x ⊎ IsServed edge finished x

-- the numbers of a list differ
abbrev pub AreDifferent : List ℕ → Type 0
AreDifferent xs = (i j x : ℕ) → slice_get xs i ≡ Some x → slice_get xs j ≡ Some x → i ≡ j

-- the nodes in the order in which a whole search finished them
pub record IsFinishingOrder (edges : List (List ℕ)) (count : ℕ) (order : List ℕ) : Type 0 where
  pub searched : IsSearching (NodeLeads edges) order []
  pub different : AreDifferent order
  pub every : (x : ℕ) → x < count → Contains order x
  pub within : All (λ x. x < count) order

-- the nodes of frames
abbrev pub nodes_of : List Frame → List ℕ
nodes_of frames = map (λ f. f.node) frames

-- how many nodes aren't seen
abbrev pub unseen : List Bool → ℕ
unseen [] = 0
unseen (s ∷ seen) = cond s 0 1 + unseen seen

-- no number stands twice in the list
abbrev pub IsOnce : List ℕ → Type 0
IsOnce [] = Unit {0}
IsOnce (x ∷ xs) = (Contains xs x → ⊥) × IsOnce xs

-- exactly the finished nodes and those of the frames are seen, each of them once; and so are the targets that a frame
-- has gone over
pub record IsGoing (edges : List (List ℕ)) (count : ℕ)
    (seen : List Bool) (order : List ℕ) (frames : List Frame) : Type 0 where
  pub whole : length seen ≡ count
  pub searching : IsSearching (NodeLeads edges) order (nodes_of frames)
  pub known : (x : ℕ) → (slice_index_or seen x false ≡ true) ↔ (Contains order x ⊎ Contains (nodes_of frames) x)
  pub scanned : All (λ f. (k : ℕ) → k < f.next → k < length (row_at edges f.node)
      → slice_index_or seen (slice_index (row_at edges f.node) k) false ≡ true) frames
  pub once : IsOnce (nodes_of frames)
  pub apart : (x : ℕ) → Contains (nodes_of frames) x → Contains order x → ⊥
  pub different : AreDifferent order
