-- A flag for each object of a heap, true exactly for the live ones, so that one look tells. (This project's
-- own.)
use Rattle.std.specs.Prelude.{◌≡◌, ℕ, ◌+◌, ◌≤◌, Bool, true, false, List, [], ◌∷◌, Contains, Some, length}
use Rattle.joint_machine.specs.Heaps.{Heap, IsLive, numbered_at}
use Rattle.heap_rules.specs.Tidy.{IsTidy}

-- the object's flag is up
abbrev pub IsUp : List Bool → ℕ → Type 0
IsUp flags x = numbered_at flags x ≡ Some true

-- how many flags are up
abbrev pub up_count : List Bool → ℕ
up_count [] = 0
up_count (true ∷ flags) = up_count flags + 1
up_count (false ∷ flags) = up_count flags

-- the flags tell which objects are live
pub record AreLiveFlags (h : Heap) (flags : List Bool) : Type 0 where
  pub len : length flags ≡ length h.fields
  pub up : (x : ℕ) → IsUp flags x → IsLive h x
  pub down : (x : ℕ) → numbered_at flags x ≡ Some false → Contains h.freed x
  pub count : length h.freed + up_count flags ≡ length h.fields

-- the flags of the objects of a list were taken down, and no others
pub record TakesDown (xs : List ℕ) (old new : List Bool) : Type 0 where
  pub len : length new ≡ length old
  pub down : (x : ℕ) → Contains xs x → numbered_at new x ≡ Some false
  pub other : (x : ℕ) → (Contains xs x → ⊥) → numbered_at new x ≡ numbered_at old x
  pub count : up_count new + length xs ≡ up_count old

-- what holds of a heap with its flags and the room of its list of freed objects
pub record IsSound (h : Heap) (ups : List Bool) (capacity : ℕ) : Type 0 where
  pub tidy : IsTidy h
  pub flags : AreLiveFlags h ups
  pub room : length h.fields ≤ capacity
