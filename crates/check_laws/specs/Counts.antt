-- What a read may answer that is set aside is told by a few counts of managed entries: at its caller's last entry, at
-- the end of each cycle, and at the setting of each cell.
use Rattle.std.specs.Prelude.{◌≡◌, ℕ, ◌+◌, ◌≤◌, ◌↔◌, ◌⊎◌, Bool, false, nat_eq, if◌then◌else◌, List, [], ◌∷◌, length}
use Rattle.std.specs.Prelude.{Contains, Option, Some, None}
use Rattle.joint_machine.specs.declared.names.Thread.{Thread}
use Rattle.joint_machine.specs.declared.lines.Act.TheVariants as act
use Rattle.joint_machine.specs.declared.events.Op.{Op}
use Rattle.joint_machine.specs.declared.events.Op.TheVariants as op
use Rattle.joint_machine.specs.declared.events.Reply.{Reply}
use Rattle.joint_machine.specs.declared.events.Reply.TheVariants as says
use Rattle.joint_machine.specs.Heaps.{slot}
use Rattle.joint_machine.specs.Managed.{Managed}
use Rattle.joint_machine.specs.Readers.{MayBeUnset}
use Rattle.joint_machine.specs.Told.{Noted}
use Rattle.check_laws.specs.Behind.{in_turn, state_of, MayBePendingBehind}
use Rattle.check_laws.specs.Known.{managed_count, seen}
use Rattle.check_laws.specs.Reads.{AllComeBehind, AreInPlace, AllReadBehind}

-- whether the event ends the cycle, and whether it sets the cell
abbrev pub ends_cycle : Op → ℕ → Bool
ends_cycle (op.Resolve c) k = nat_eq c.0 k
ends_cycle (op.Abandon c) k = nat_eq c.0 k
ends_cycle _ k = false

abbrev pub sets_cell : Op → Reply → ℕ → Bool
sets_cell (op.Line (act.Weak c v)) says.Ok k = nat_eq c.0 k
sets_cell _ reply k = false

-- how many managed entries there were with the end of a cycle; none where it hasn't ended
abbrev pub ended : List Noted → ℕ → Option ℕ
ended [] k = None
ended (n ∷ past) k = if ends_cycle n.entry.made.op k then Some (managed_count (n ∷ past)) else ended past k

-- who set a cell, and how many managed entries there were with that one
pub record Setting : Type 0 where
  pub caller : Thread
  pub count : ℕ

abbrev pub setting : List Noted → ℕ → Option Setting
setting [] k = None
setting (n ∷ past) k = if sets_cell n.entry.made.op n.entry.made.reply k then Some
    record { caller = n.entry.made.caller; count = managed_count (n ∷ past) } else setting past k

-- no more than that, where there is a number
abbrev pub AtMost : ℕ → Option ℕ → Type 0
AtMost n None = Unit {0}
AtMost n (Some m) = n ≤ m

-- a thread may answer `pending k`: the cycle is the next one, and none is open; or it was snapped, and isn't over, or
-- the thread has seen no managed entry behind its end
abbrev pub IsPendingBy : List Noted → Managed → Thread → ℕ → Type 0
IsPendingBy past s t k = ((s.cycle ≡ None) × (k ≡ s.cycles + 1))
    ⊎ ((1 ≤ k) × (k ≤ s.cycles) × AtMost (seen past t) (ended past k))

-- a thread knows nothing of the setting of a cell: another thread made it, and the thread has seen no managed entry
-- behind it
abbrev pub IsUnknown : Thread → ℕ → Option Setting → Type 0
IsUnknown t n None = Unit {0}
IsUnknown t n (Some w) = (w.caller ≡ t → ⊥) × (n ≤ w.count)

-- a thread may answer `unset`: it knows nothing of the setting, and the cell has no target that is freed
pub record IsUnsetBy (past : List Noted) (s : Managed) (t : Thread) (k : ℕ) : Type 0 where
  pub unknown : IsUnknown t (seen past t) (setting past k)
  pub unfreed : (m : ℕ) → slot s.cells k ≡ Some m → Contains s.heap.freed m → ⊥

-- so it is of each past whose entries come and whose reads answer as they may
pub record AreCounted (past : List Noted) (t : Thread) (k : ℕ) : Type 0 where
  pub pending : IsPendingBy past (state_of past).managed.managed t k
      ↔ MayBePendingBehind past (state_of past).managed.managed (length past) t k
  pub unset : IsUnsetBy past (state_of past).managed.managed t k
      ↔ MayBeUnset (in_turn past) (state_of past).managed.managed.cells (length past) t k

abbrev pub ReadsAreCounted : Type 0
ReadsAreCounted = (past : List Noted) → AllComeBehind past → AllReadBehind past
    → AreInPlace past → (t : Thread) (k : ℕ) → AreCounted past t k
