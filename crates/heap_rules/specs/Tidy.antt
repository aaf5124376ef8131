-- What holds of every heap that operations have made: what is named, or held by a live object, is live.
-- (Memory safety of a traced heap, as in any textbook.)
use Rattle.std.specs.Prelude.{◌≡◌, ℕ, ◌≤◌, if◌then◌else◌, List, [], All, Contains, Option, Some, length}
use Rattle.joint_machine.specs.Components.{Rises}
use Rattle.joint_machine.specs.Heaps.{Heap, MOST, IsMade, IsLive, InSlot, fields_of, is_freed}
use Rattle.joint_machine.specs.declared.names.TheConstants.{VARS}

-- no slot and no field of a live object has a freed one, and the tables have their sizes
pub record IsTidy (h : Heap) : Type 0 where
  pub most : length h.fields ≤ MOST
  pub vars : length h.vars ≡ VARS
  pub statics : length h.statics ≡ 16
  pub slots : (x : ℕ) → InSlot h x → IsLive h x
  pub held : (x y : ℕ) → IsLive h x → Contains (fields_of h x) (Some y) → IsLive h y
  pub freed : (x : ℕ) → Contains h.freed x → IsMade h x

-- the fields of an object that isn't freed; none for a freed one, and none where there is no such object
abbrev pub live_fields : Heap → ℕ → List (Option ℕ)
live_fields h x = if is_freed h x then [] else fields_of h x

-- the objects of a list may be freed: they are live and their numbers rise, no slot names one, and no live
-- object that isn't freed with them has one in a field
pub record CanFree (h : Heap) (xs : List ℕ) : Type 0 where
  pub live : All (IsLive h) xs
  pub rises : Rises xs
  pub unnamed : (x : ℕ) → Contains xs x → InSlot h x → ⊥
  pub unheld : (x y : ℕ) → IsLive h x → (Contains xs x → ⊥) → Contains xs y → Contains (fields_of h x) (Some y) → ⊥
