-- What the rows of a heap reach, and what a snapshot and a resolution free, by computing.
use Rattle.std.specs.Prelude.{ℕ, ◌+◌, Bool, true, false, not, ◌&&◌, nat_eq, nat_le, List, [], ◌∷◌, ◌++◌, length, filter}
use Rattle.std.specs.Prelude.{Option, Some, None}
use Rattle.joint_machine.specs.Heaps.{Heap, is_freed, fields_of, numbered_at}
use Rattle.joint_machine.specs.Managed.{Managed}
use Rattle.joint_machine.specs.Told.{Answer, said_alive, said_cleared}
use Rattle.computed_histories.specs.Lists.{has, is_empty, reach, count_from, rises_exactly, where_true, somes}

-- whether an object is live
abbrev pub is_live : Heap → ℕ → Bool
is_live h x = nat_le 1 x && nat_le x (length h.fields) && not (is_freed h x)

-- the objects that were made
abbrev pub all_rows : Heap → List ℕ
all_rows h = count_from 1 (length h.fields)

-- where the fields of an object lead
abbrev pub heap_next : Heap → ℕ → List ℕ
heap_next h x = where_true (is_live h x) (filter (is_live h) (somes (fields_of h x)))

-- the objects in a variable or a static
abbrev pub slot_rows : Heap → List ℕ
slot_rows h = somes h.vars ++ somes h.statics

-- what a list of objects reaches over fields
abbrev pub field_reach : Heap → List ℕ → List ℕ
field_reach h roots = reach nat_eq (heap_next h) (length (all_rows h)) roots

-- the objects in a slot or a pin
abbrev pub managed_roots : Managed → List ℕ
managed_roots s = slot_rows s.heap ++ somes s.pins

-- whether a place has a handle
abbrev pub has_handle : Option (Option ℕ) → Bool
has_handle None = false
has_handle (Some None) = false
has_handle (Some (Some h)) = true

-- whether an object is a bridge row, and the bridge rows
abbrev pub is_bridge : Managed → ℕ → Bool
is_bridge s m = is_live s.heap m && has_handle (numbered_at s.held m)

abbrev pub bridge_rows : Managed → List ℕ
bridge_rows s = filter (is_bridge s) (all_rows s.heap)

-- what the slots and the pins reach, and what the bridge rows reach
abbrev pub slot_reach : Managed → List ℕ
slot_reach s = field_reach s.heap (managed_roots s)

abbrev pub bridge_reach : Managed → List ℕ
bridge_reach s = field_reach s.heap (bridge_rows s)

-- whether the lists are what a snapshot frees, its candidates and its dead part, given what the slots and the bridge
-- rows reach
abbrev pub is_surveyed : Managed → List ℕ → List ℕ → List ℕ → List ℕ → List ℕ → Bool
is_surveyed s slots bridges freed candidates dead =
    rises_exactly (all_rows s.heap) (λ m. is_live s.heap m && not (has slots m) && not (has bridges m)) freed
    && rises_exactly (all_rows s.heap) (λ m. is_bridge s m && not (has slots m)) candidates
    && rises_exactly (all_rows s.heap) (λ m. is_live s.heap m && not (has slots m) && not (has freed m)) dead

-- whether they are those of a snapshot that opens cycle k
abbrev pub is_snapshot : Managed → ℕ → List ℕ → List ℕ → List ℕ → Bool
is_snapshot s k freed candidates dead =
    is_empty s.cycle && nat_eq k (s.cycles + 1) && is_surveyed s (slot_reach s) (bridge_reach s) freed candidates dead

-- whether the list is what a resolution frees of a dead part, given what the kept candidates reach
abbrev pub is_left_by : List ℕ → List ℕ → List ℕ → Bool
is_left_by dead reached freed = rises_exactly dead (λ m. has dead m && not (has reached m)) freed

-- the same, given the kept candidates
abbrev pub is_resolution : Managed → List ℕ → List ℕ → List ℕ → Bool
is_resolution s dead kept freed = is_left_by dead (field_reach s.heap kept) freed

-- the candidates that are answered alive
abbrev pub answered_alive : List ℕ → List Answer → List ℕ
answered_alive [] answers = []
answered_alive (c ∷ cs) [] = []
answered_alive (c ∷ cs) (said_alive h ∷ answers) = c ∷ answered_alive cs answers
answered_alive (c ∷ cs) (said_cleared ∷ answers) = answered_alive cs answers
