-- What a caller's arrays say of a graph: its nodes by their kinds, and its edges in rows or as pairs.
use Rattle.std.specs.Prelude.{◌≡◌, ◌≢◌, ℕ, ◌+◌, ◌<◌, ◌≤◌, List, length, All, Contains, Some, slice_get, slice_index}
use Rattle.std.specs.Prelude.{slice_index_or, slice_range}
use Rattle.bridge_graph.specs.declared.packing.Link.{Link}

-- element x of the flags isn't 0
abbrev pub IsSet : List ℕ → ℕ → Type 0
IsSet flags x = (flag : ℕ) × (slice_get flags x ≡ Some flag) × (flag ≢ 0)

-- node x is a bridge node: its kind isn't 0
abbrev pub IsBridgeAt : List ℕ → ℕ → Type 0
IsBridgeAt kinds x = IsSet kinds x

-- an edge leads from x to y, as a pair
abbrev pub HasEdge : List Link → ℕ → ℕ → Type 0
HasEdge edges x y = Contains edges record { from = x; to = y }

-- the pairs are edges between so many nodes
abbrev pub AreEdges : ℕ → List Link → Type 0
AreEdges nodes edges = All (λ e. (e.from < nodes) × (e.to < nodes)) edges

-- an edge leads from x to y, in rows: y stands in the targets from the start of row x on, up to that of the next row,
-- or up to the end
abbrev pub LeadsInRow : List ℕ → List ℕ → ℕ → ℕ → Type 0
LeadsInRow starts targets x y = (x < length starts)
    × Contains (slice_range targets (slice_index starts x) (slice_index_or starts (x + 1) (length targets))) y

-- each row starts where the next one does, or before it, and none behind the end
pub record AreInOrder (starts : List ℕ) (end : ℕ) : Type 0 where
  pub order : (x : ℕ) → x < length starts → slice_index starts x ≤ slice_index_or starts (x + 1) end
  pub within : (x : ℕ) → slice_index_or starts x end ≤ end

-- the arrays are the rows of so many nodes: a start for each, in order, and targets that are nodes
pub record AreRows (nodes : ℕ) (starts targets : List ℕ) : Type 0 where
  pub count : length starts ≡ nodes
  pub cut : AreInOrder starts (length targets)
  pub ends : All (λ y. y < nodes) targets

abbrev pub pair_of : Link → ℕ × ℕ
pair_of l = (l.from, l.to)
