-- The dead part as a graph value.
use Rattle.std.specs.Prelude.{◌≡◌, ℕ, ◌+◌, ◌<◌, ◌↔◌, nat_eq, List, length, map, Contains, Option, Some, None, slice_get}
use Rattle.joint_machine.specs.declared.names.HNum.{HNum}
use Rattle.joint_machine.specs.declared.names.MNum.{MNum}
use Rattle.joint_machine.specs.Heaps.{Heap, HasField, fields_of, numbered_at}
use Rattle.joint_machine.specs.Managed.{Managed, handle_of}
use Rattle.bridge_graph.specs.declared.graph.Node.{Node}
use Rattle.bridge_graph.specs.Parts.{Part, NodeLeads, numbers_of}

-- a handle as an option of a number, and back
abbrev pub handle_number : Option HNum → Option ℕ
handle_number None = None
handle_number (Some h) = Some h.0

abbrev pub handle_named : Option ℕ → Option HNum
handle_named None = None
handle_named (Some h) = Some record { 0 = h }

-- the graph of a dead part: a node for each row, in their order, with the handle that the row holds, and an edge from
-- node i to node k exactly where row i has row k in a field
pub record IsDeadGraph (s : Managed) (dead : List ℕ) (g : Part) : Type 0 where
  pub numbers : numbers_of g.nodes ≡ dead
  pub handles : map (λ n. handle_number n.handle) g.nodes ≡ map (handle_of s) dead
  pub edges : (i k x y : ℕ) → slice_get dead i ≡ Some x
      → slice_get dead k ≡ Some y → NodeLeads g.edges i k ↔ HasField s.heap x y

-- the handle beside a row of a list of held handles
abbrev pub held_at : List (Option ℕ) → ℕ → Option ℕ
held_at held m = elim (numbered_at held m) [ None ↦ None | Some h ↦ h ]

-- the node of a row; a row without fields is opaque, since there is nothing to look at
abbrev pub node_of : Heap → List (Option ℕ) → MNum → Node
node_of h held m = record {
  number = m;
  handle = handle_named (held_at held m.0);
  opaque = nat_eq (length (fields_of h m.0)) 0;
}

-- the places, counted from 1, at which the first n rows of a list stand; 0 stands at each other number
pub record ArePlaces (n : ℕ) (dead places : List ℕ) : Type 0 where
  pub sound : (y k : ℕ) → slice_get places y ≡ Some (k + 1) → slice_get dead k ≡ Some y
  pub full : (k y : ℕ) → k < n → slice_get dead k ≡ Some y → slice_get places y ≡ Some (k + 1)

-- a field holds the row whose place is k
abbrev pub IsPlaceOf : List ℕ → Option ℕ → ℕ → Type 0
IsPlaceOf places field k = (y : ℕ) × (field ≡ Some y) × (slice_get places y ≡ Some (k + 1))

-- one of the fields holds the row whose place is k
abbrev pub HasPlaced : List ℕ → List (Option ℕ) → ℕ → Type 0
HasPlaced places fields k = (y : ℕ) × Contains fields (Some y) × (slice_get places y ≡ Some (k + 1))

-- row i of a list has row k in a field
pub record HasDeadField (h : Heap) (dead : List ℕ) (i k : ℕ) : Type 0 where
  pub from : ℕ
  pub to : ℕ
  pub here : slice_get dead i ≡ Some from
  pub there : slice_get dead k ≡ Some to
  pub field : Contains (fields_of h from) (Some to)
