-- The mirror edges of a report, as numbers: an object is itself, and a temporary stands behind all objects.
use Rattle.std.specs.Prelude.{◌≡◌, ℕ, ◌+◌, ◌<◌, ◌≤◌, List, length, map}
use Rattle.joint_machine.specs.Components.{End, node, temporary, end_at, mirror_edges}
use Rattle.joint_machine.specs.Numbers.{u32_max}
use Rattle.bridge_graph.specs.declared.packing.Link.{Link}
use Rattle.bridge_graph.specs.Packing.{packed_row, packed_rows}
use Rattle.array_graphs.specs.Graphs.{pair_of}
use Rattle.cycle_check.specs.Reports.{IsReport}

-- the number of an end: a node's own, and that of a temporary behind n objects
abbrev pub end_number : ℕ → End → ℕ
end_number n (node x) = x
end_number n (temporary t) = n + t

abbrev pub edge_numbers : ℕ → End × End → ℕ × ℕ
edge_numbers n e = (end_number n e.0, end_number n e.1)

-- the numbers of the ends that a cross-reference joins
abbrev pub ends_of : ℕ → List (List ℕ) → Link → ℕ × ℕ
ends_of n comps l = (end_number n (end_at comps l.from), end_number n (end_at comps l.to))

-- the first m components have members, and the others have none
pub record AreSplit (starts members : List ℕ) (m : ℕ) : Type 0 where
  pub within : m ≤ length starts
  pub some : (c : ℕ) → c < m → 0 < length (packed_row starts members c)
  pub none : (c : ℕ) → m ≤ c → c < length starts → length (packed_row starts members c) ≡ 0

-- a report as the pass gives it: components without members come last
pub record IsPassReport (n : ℕ) (starts members : List ℕ) (xrefs : List Link) : Type 0 where
  pub report : IsReport n starts members xrefs
  pub m : ℕ
  pub split : AreSplit starts members m

-- there are more objects and components than can be numbered
abbrev pub IsTooMuch : ℕ → List ℕ → Type 0
IsTooMuch n starts = u32_max < n + length starts

-- the edges are exactly the mirror edges of the components and cross-references, with so many temporaries
pub record IsMirrored (n : ℕ) (starts members : List ℕ) (xrefs edges : List Link) (temporaries : ℕ) : Type 0 where
  pub m : ℕ
  pub split : AreSplit starts members m
  pub count : m + temporaries ≡ length starts
  pub exact : map pair_of edges ≡ map (edge_numbers n) (mirror_edges (packed_rows starts members m) (map pair_of xrefs))
