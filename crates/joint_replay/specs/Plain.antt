-- A heap in plain lists, which nothing is asked of but its flags: a field may hold a freed object. (This project's
-- own.)
use Rattle.std.specs.Prelude.{◌≡◌, ℕ, ◌≤◌, ◌⊎◌, Bool, true, false, ◌&&◌, not, nat_le, if◌then◌else◌, List, [], map}
use Rattle.std.specs.Prelude.{Contains, Option, Some, None, length}
use Rattle.joint_machine.specs.declared.events.Reply.{Reply}
use Rattle.joint_machine.specs.declared.events.Reply.TheVariants as says
use Rattle.joint_machine.specs.Heaps.{Heap, MOST, IsMade, is_freed, numbered_at}
use Rattle.joint_machine.specs.Cycles.{IsOpen}
use Rattle.joint_machine.specs.Managed.{Managed, OpenCycle}
use Rattle.joint_machine.specs.Peers.{Issued, Hold, Strength, held, raw, strong, weak}
use Rattle.joint_replay.specs.declared.peers.Handle.{Handle}
use Rattle.joint_replay.specs.declared.peers.IssuedHold.{IssuedHold}
use Rattle.joint_replay.specs.declared.peers.IssuedHold.TheVariants.{Held, Raw}
use Rattle.joint_replay.specs.declared.peers.IssuedStrength.{IssuedStrength}
use Rattle.joint_replay.specs.declared.peers.IssuedStrength.TheVariants.{Strong, Weak}
use Rattle.joint_replay.specs.declared.replies.Refusal.{Refusal}
use Rattle.joint_replay.specs.declared.replies.Refusal.TheVariants as refusal
use Rattle.joint_machine.specs.declared.names.TheConstants.{VARS}

-- the flags say of each object whether it is freed, there are no more objects than fit, and the tables have their sizes
pub record IsFlagged (h : Heap) (flags : List Bool) : Type 0 where
  pub most : length h.fields ≤ MOST
  pub vars : length h.vars ≡ VARS
  pub statics : length h.statics ≡ 16
  pub len : length flags ≡ length h.fields
  pub made : (x : ℕ) → Contains h.freed x → IsMade h x
  pub up : (x : ℕ) → numbered_at flags x ≡ Some true → Contains h.freed x → ⊥
  pub down : (x : ℕ) → numbered_at flags x ≡ Some false → Contains h.freed x

-- whether the object was made and isn't freed
abbrev pub is_live : Heap → ℕ → Bool
is_live h x = nat_le 1 x && nat_le x (length h.fields) && not (is_freed h x)

-- what a field leads to: the live object that it holds, or nothing
abbrev pub kept_target : Heap → Option ℕ → Option ℕ
kept_target h None = None
kept_target h (Some y) = if is_live h y then Some y else None

-- the heap with each field emptied that holds a freed object: its edges are the same
abbrev pub cleaned : Heap → Heap
cleaned h = record h { fields = map (map (kept_target h)) h.fields }

-- who a handle was made for, in the model's words
abbrev pub hold_as : IssuedHold → Hold
hold_as Held = held
hold_as Raw = raw

-- whether a handle was made strong, in the model's words
abbrev pub strength_as : IssuedStrength → Strength
strength_as Strong = strong
strength_as Weak = weak

-- a handle as it was issued
abbrev pub issued_as : Handle → Issued
issued_as h = record { peer = h.peer; hold = hold_as h.hold; strength = strength_as h.strength }

-- the reply of a refusal
abbrev pub refusal_reply : Refusal → Reply
refusal_reply refusal.Empty = says.Empty
refusal_reply refusal.Range = says.Range
refusal_reply refusal.Null = says.Null
refusal_reply refusal.Full = says.Full
refusal_reply refusal.Gone = says.Gone
refusal_reply refusal.Taken = says.Taken
refusal_reply refusal.Unset = says.Unset
refusal_reply refusal.Plain = says.Plain

-- cycle k is open
pub record HasOpen (s : Managed) (k : ℕ) : Type 0 where
  pub cycle : OpenCycle
  pub is_open : IsOpen s k cycle

-- the flags of the objects of a list were taken down, and no others
pub record Lowers (xs : List ℕ) (old new : List Bool) : Type 0 where
  pub len : length new ≡ length old
  pub up : (x : ℕ) → numbered_at new x ≡ Some true → (numbered_at old x ≡ Some true) × (Contains xs x → ⊥)
  pub down : (x : ℕ) → numbered_at new x ≡ Some false → (numbered_at old x ≡ Some false) ⊎ Contains xs x

-- the dead part of the open cycle; none where no cycle is open
abbrev pub dead_of : Managed → List ℕ
dead_of s = elim s.cycle [ None ↦ [] | Some c ↦ c.dead ]
