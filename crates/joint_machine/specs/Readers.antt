-- Reads that take no lock: a reader's `read` or `wait` is an entry of the reader's own list, made at any moment. Here
-- is what such an entry may answer, over a whole history, and when the entries of a list come so. (SGen's bridge
-- header: while bridge processing is in progress, the reading of a weak link to a bridge object waits.)
-- Believed: the clauses of the program's top call rest on all that stands here.
use Rattle.std.specs.Prelude.{◌≡◌, ℕ, ◌<◌, ◌≤◌, ◌^◌, ◌⊎◌, Bool, true, false, not, ◌&&◌, if◌then◌else◌, List, [], ◌∷◌}
use Rattle.std.specs.Prelude.{Contains, Option, Some, None, slice_set}
use Rattle.joint_machine.specs.declared.names.Thread.{Thread}
use Rattle.joint_machine.specs.declared.lines.Act.TheVariants as act
use Rattle.joint_machine.specs.declared.events.Op.{Op}
use Rattle.joint_machine.specs.declared.events.Op.TheVariants as op
use Rattle.joint_machine.specs.declared.events.Reply.{Reply}
use Rattle.joint_machine.specs.declared.events.Reply.TheVariants as says
use Rattle.joint_machine.specs.Control.{CallerAllows, control_after, last_line}
use Rattle.joint_machine.specs.Heaps.{slot}
use Rattle.joint_machine.specs.Lines.{IsEvent, is_peer_event, is_read}
use Rattle.joint_machine.specs.Linked.{Linkage, linkage_after, MayCome}
use Rattle.joint_machine.specs.Managed.{Managed, read_cell}
use Rattle.joint_machine.specs.Places.{At}
use Rattle.joint_machine.specs.Run.{thread_number}
use Rattle.joint_machine.specs.Told.{Told, nothing, snap_of, resolution_of, Noted}

-- whether the entry stands in the managed side's list
abbrev pub is_managed_entry : Noted → Bool
is_managed_entry n = not (is_peer_event n.entry.made.caller n.entry.made.op) && not (is_read n.entry.made.op)

-- the event reads the cell
abbrev pub ReadsCell : Op → ℕ → Type 0
ReadsCell (op.Line (act.Read c)) k = c.0 ≡ k
ReadsCell (op.Line (act.Await c)) k = c.0 ≡ k
ReadsCell _ k = ⊥

-- the event sets the cell
abbrev pub SetsCell : Op → ℕ → Type 0
SetsCell (op.Line (act.Weak c v)) k = c.0 ≡ k
SetsCell _ k = ⊥

-- whether a reply is `pending` or `unset`
abbrev pub is_set_aside : Reply → Bool
is_set_aside (says.Pending c) = true
is_set_aside says.Unset = true
is_set_aside _ = false

-- the entry at that place, which in a history is its number, has the event
abbrev pub HasEventAt : List Noted → ℕ → Op → Type 0
HasEventAt ns i o = At ns i (λ n. n.entry.made.op ≡ o)

-- a managed entry with that number
abbrev pub IsManagedAt : List Noted → ℕ → Type 0
IsManagedAt ns i = At ns i (λ n. is_managed_entry n ≡ true)

-- the entry with number i ends cycle k
abbrev pub EndsCycleAt : List Noted → ℕ → ℕ → Type 0
EndsCycleAt ns i k = At ns i (λ n. (n.entry.made.op ≡ op.Resolve record { 0 = k })
    ⊎ (n.entry.made.op ≡ op.Abandon record { 0 = k }))

-- the entry with number i set cell k
abbrev pub SetsCellAt : List Noted → ℕ → ℕ → Type 0
SetsCellAt ns i k = At ns i (λ n. SetsCell n.entry.made.op k × (n.entry.made.reply ≡ says.Ok))

-- the entry with number i was made by the caller
abbrev pub IsCallersAt : List Noted → ℕ → Thread → Type 0
IsCallersAt ns i t = At ns i (λ n. n.entry.made.caller ≡ t)

-- the caller's last entry before number i stands at or after number j: some entry of the caller stands between
abbrev pub HasKnownFrom : List Noted → Thread → ℕ → ℕ → Type 0
HasKnownFrom ns t i j = (x : ℕ) × (j ≤ x) × (x < i) × IsCallersAt ns x t

-- an entry with number i, by thread t, that answers `pending k`: the snap of cycle k stands in the history, each
-- managed entry before it has a smaller number than this one, and no managed entry later than the end of cycle k stands
-- at or before the caller's last entry
pub record MayBePending (ns : List Noted) (i : ℕ) (t : Thread) (k : ℕ) : Type 0 where
  pub snap : ℕ
  pub snaps : HasEventAt ns snap (op.Snap record { 0 = k })
  pub early : (j : ℕ) → j < snap → IsManagedAt ns j → j < i
  pub unknown : (end j : ℕ) → EndsCycleAt ns end k → end < j → IsManagedAt ns j → HasKnownFrom ns t i j → ⊥

-- the object is freed by the entry with number i
abbrev pub FreesObject : Told → ℕ → Type 0
FreesObject (snap_of freed candidates dead) m = Contains freed m
FreesObject (resolution_of alive freed) m = Contains freed m
FreesObject _ m = ⊥

abbrev pub FreesObjectAt : List Noted → ℕ → ℕ → Type 0
FreesObjectAt ns i m = At ns i (λ n. FreesObject n.told m)

-- an entry with number i, by thread t, that answers `unset` for cell k, which has that target or none at the end: no
-- managed entry later than the `weak` that set the cell stands at or before the caller's last entry; no `weak` of its
-- caller that set the cell stands before it; no entry that freed the cell's target stands before it
pub record MayBeUnset (ns : List Noted) (cells : List (Option ℕ)) (i : ℕ) (t : Thread) (k : ℕ) : Type 0 where
  pub unknown : (set j : ℕ) → SetsCellAt ns set k → set < j → IsManagedAt ns j → HasKnownFrom ns t i j → ⊥
  pub not_own : (set : ℕ) → SetsCellAt ns set k → set < i → IsCallersAt ns set t → ⊥
  pub target_unfreed : (m j : ℕ) → slot cells k ≡ Some m → FreesObjectAt ns j m → j < i → ⊥

-- a read's reply, by what it is: `pending` and `unset` come with an empty pin and have their rules, every other reply
-- is the one that the managed state at its number gives
abbrev pub IsReadReply : List Noted → List (Option ℕ) → Managed → ℕ → Thread → ℕ → Reply → Type 0
IsReadReply ns cells s i t k (says.Pending c) = (slot s.pins (thread_number t) ≡ None) × MayBePending ns i t c.0
IsReadReply ns cells s i t k says.Unset = (slot s.pins (thread_number t) ≡ None) × MayBeUnset ns cells i t k
IsReadReply ns cells s i t k reply = reply ≡ (read_cell s (thread_number t) k).reply

-- a read that names an object fills its caller's pin
abbrev pub pins_after : List (Option ℕ) → ℕ → Reply → List (Option ℕ)
pins_after pins t (says.M m) = slice_set pins t (Some m.0)
pins_after pins t _ = pins

-- the state after a reader's entry: a pin may be filled, and the caller's line is known
abbrev pub reader_after : Linkage → Noted → Linkage
reader_after s n = record s {
  managed = record s.managed {
    managed = record s.managed.managed
        { pins = pins_after s.managed.managed.pins (thread_number n.entry.made.caller) n.entry.made.reply };
  };
  control = control_after s.control n.entry.made.caller n.entry.number
      n.entry.made.index n.entry.made.op n.entry.made.reply n.told;
}

-- a reader's entry may come next, whatever its number, but for its reply; its line is a number of 32 bits
pub record ReaderMayCome (s : Linkage) (n : Noted) : Type 0 where
  pub event : IsEvent n.entry.made.caller n.entry.made.op
  pub line : last_line s.control n.entry.made.caller ≤ n.entry.made.index
  pub short : n.entry.made.index < 2 ^ 32
  pub order : CallerAllows s.control s.managed.managed s.peer.peers.issued n.entry.made.caller
      n.entry.made.index n.entry.made.op n.entry.made.reply n.entry.made.cites n.told
  pub bare : n.told ≡ nothing

-- an entry of any list may come next, given the whole history and the cells at its end
abbrev pub EntryMayCome : Bool → List Noted → List (Option ℕ) → Linkage → Noted → Type 0
EntryMayCome true ns cells s n = ReaderMayCome s n
    × ((k : ℕ) → ReadsCell n.entry.made.op k
    → IsReadReply ns cells s.managed.managed n.entry.number n.entry.made.caller k n.entry.made.reply)
EntryMayCome false ns cells s n = MayCome s n

-- the state after an entry of any list
abbrev pub entry_after : Linkage → Noted → Linkage
entry_after s n = if is_read n.entry.made.op then reader_after s n else linkage_after s n

-- the state after all entries of a list, and that each may come when it comes
abbrev pub replayed_reading : Linkage → List Noted → Linkage
replayed_reading s [] = s
replayed_reading s (n ∷ ns) = replayed_reading (entry_after s n) ns

abbrev pub AllMayComeReading : List Noted → List (Option ℕ) → Linkage → List Noted → Type 0
AllMayComeReading whole cells s [] = Unit {0}
AllMayComeReading whole cells s (n ∷ ns) = EntryMayCome (is_read n.entry.made.op) whole cells s n
    × AllMayComeReading whole cells (entry_after s n) ns

-- whether the entry is a read that answered `pending` or `unset`, which is no step of the joint machine
abbrev pub is_aside : Noted → Bool
is_aside n = is_read n.entry.made.op && is_set_aside n.entry.made.reply
