-- What an open cycle keeps ready for its end. (This project's own; that the marks of a snapshot stay while its cycle is
-- open is as in SGen, whose bridge works on the objects that its own marking left out.)
use Rattle.std.specs.Prelude.{◌≡◌, ℕ, ◌↔◌, ◌≤◌, length, Contains, Option, Some}
use Rattle.joint_machine.specs.Components.{Rises}
use Rattle.joint_machine.specs.Heaps.{IsLive}
use Rattle.joint_machine.specs.Managed.{OpenCycle}
use Rattle.reachability.specs.Marks.{HasMark}
use Rattle.row_heap.specs.Rows.{HeapRows}

-- the rows of the dead part are exactly the live ones without a mark, and there is room for a notice for each candidate
pub record HasDue (v : HeapRows) (spare : ℕ) (c : OpenCycle) : Type 0 where
  pub rise : Rises c.dead
  pub white : (m : ℕ) → Contains c.dead m ↔ (IsLive v.heap m × (HasMark v.marks m → ⊥))
  pub notices : length c.candidates ≤ spare

-- so it is while a cycle is open
abbrev pub AreDues : Option OpenCycle → HeapRows → ℕ → Type 0
AreDues cycle v spare = (c : OpenCycle) → cycle ≡ Some c → HasDue v spare c
