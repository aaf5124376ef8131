-- What is gathered before a marking: its roots, and the rows that it leaves out. (This project's own.)
use Rattle.std.specs.Prelude.{ℕ, ◌↔◌, ◌⊎◌, List, Contains, Option, Some}
use Rattle.joint_machine.specs.Components.{Rises}
use Rattle.joint_machine.specs.Heaps.{Heap, IsLive, InSlot}

-- the slots name the object, and it is live
abbrev pub IsNamedLive : Heap → List (Option ℕ) → ℕ → Type 0
IsNamedLive h slots x = IsLive h x × Contains slots (Some x)

-- a variable, a static or a pin names the object
abbrev pub IsNamedOrPinned : Heap → List (Option ℕ) → ℕ → Type 0
IsNamedOrPinned h pins x = InSlot h x ⊎ Contains pins (Some x)

-- the list rises, and has exactly the rows that are wanted
pub record ListsExactly (wanted : ℕ → Type 0) (xs : List ℕ) : Type 0 where
  pub rise : Rises xs
  pub exact : (m : ℕ) → Contains xs m ↔ wanted m
