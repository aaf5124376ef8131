-- How much room a snapshot needs.
use Rattle.std.specs.Prelude.{◌≡◌, ℕ, ◌+◌, ◌≤◌, List, [], ◌∷◌, length, map, replicate, sum, vec_capacity, Option, Some}
use Rattle.joint_machine.specs.Heaps.{Heap, fields_of}
use Rattle.joint_machine.specs.Managed.{Managed}
use Rattle.managed_heap.specs.declared.rooms.Room.{Room}
use Rattle.managed_heap.specs.declared.rooms.SnapRoom.{SnapRoom}
use Rattle.joint_machine.specs.Numbers.{u32_max}

-- how many fields these rows have together
abbrev pub fields_in : Heap → List ℕ → ℕ
fields_in h [] = 0
fields_in h (x ∷ xs) = length (fields_of h x) + fields_in h xs

-- nothing is in the lists and in the graph
pub record IsNoRoom (r : Room) : Type 0 where
  pub freed : r.freed.items ≡ []
  pub candidates : r.candidates.items ≡ []
  pub dead : r.dead.items ≡ []
  pub places : r.places.items ≡ []
  pub graph : (r.graph.nodes ≡ []) × (r.graph.edges ≡ [])

-- the lists are empty and have a place for each of so many rows, the places are all 0, and the graph has room for each
-- of them and for so many fields
pub record HasRoomFor (r : Room) (rows fields : ℕ) : Type 0 where
  pub freed : (r.freed.items ≡ []) × (rows ≤ vec_capacity r.freed)
  pub candidates : (r.candidates.items ≡ []) × (rows ≤ vec_capacity r.candidates)
  pub dead : (r.dead.items ≡ []) × (rows ≤ vec_capacity r.dead)
  pub places : r.places.items ≡ replicate (rows + 1) 0
  pub graph : (r.graph.nodes ≡ []) × (r.graph.edges ≡ [])
  pub nodes : rows ≤ r.graph.spare_nodes
  pub edges : fields ≤ r.graph.spare_edges

-- it is room for the rows of these objects and their fields
abbrev pub FitsRows : Room → Heap → Type 0
FitsRows r h = HasRoomFor r (length h.fields) (sum (map length h.fields))

-- the room is enough for a snapshot of these objects, whatever pins it is given: for what it makes of its rows, and for
-- a notice for each of them after those that were queued
pub record FitsSnap (r : SnapRoom) (s : Managed) : Type 0 where
  pub rows : FitsRows r.rows s.heap
  pub empty : r.notices.items ≡ []
  pub wide : length s.notices + length s.heap.fields ≤ vec_capacity r.notices
  pub most : length s.notices + length s.heap.fields ≤ u32_max

-- where room for a snapshot was taken, it is enough for these objects
abbrev pub IsEnough : Option SnapRoom → Managed → Type 0
IsEnough room s = (r : SnapRoom) → room ≡ Some r → FitsSnap r s

-- and there is room for the snapshot's entry and the two that its cycle owes
abbrev pub HasThree : Option SnapRoom → ℕ → Type 0
HasThree room spare = (r : SnapRoom) → room ≡ Some r → 3 ≤ spare
