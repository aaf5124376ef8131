-- What a replay keeps of the entries so far, given as a past, the latest first: both sides with the open cycle, the
-- pins and the cells, which the entry's own call makes longer; and the callers with the readers' counts, which are
-- noted once the entry is found in order.
use Rattle.std.specs.Prelude.{◌≡◌, ℕ, ◌+◌, ◌<◌, ◌^◌, nat_lt, if◌then◌else◌, List, [], ◌∷◌, drop, length, map, slice_set}
use Rattle.std.specs.Prelude.{Option, Some, None}
use Rattle.joint_machine.specs.declared.names.Cycle.{Cycle}
use Rattle.joint_machine.specs.declared.names.MNum.{MNum}
use Rattle.joint_machine.specs.declared.lines.Act.TheVariants as act
use Rattle.joint_machine.specs.declared.events.Made.{Made}
use Rattle.joint_machine.specs.declared.events.Op.{Op}
use Rattle.joint_machine.specs.declared.events.Op.TheVariants as op
use Rattle.joint_machine.specs.declared.events.Reply.{Reply}
use Rattle.joint_machine.specs.declared.events.Reply.TheVariants as says
use Rattle.joint_machine.specs.Control as control
use Rattle.joint_machine.specs.Control.{Stand}
use Rattle.joint_machine.specs.Draws.{AllBelow}
use Rattle.joint_machine.specs.Linked.{Linkage}
use Rattle.joint_machine.specs.Managed.{candidates_of}
use Rattle.joint_machine.specs.Told.{Noted}
use Rattle.joint_machine.specs.PinsTold.{no_pins, with_pins}
use Rattle.check_laws.specs.Behind.{WaitsForSnap, state_of}
use Rattle.caller_turns.specs.Shapes.{callers_of}
use Rattle.reader_counts.specs.Told.{AreCountsOf}
use Rattle.managed_heap.specs.Pinned.{pins_given}
use Rattle.managed_heap.specs.Rows.{number_or_none}
use Rattle.managed_heap.specs.Sides.{ManagedModel}
use Rattle.peer_heap.specs.Sides.{PeerModel, Reserve}
use Rattle.run_check.specs.declared.readers.Readers.{Readers}
use Rattle.run_check.specs.declared.replays.Replay.{Replay}
use Rattle.run_check.specs.Cycles.{CycleFollows}

-- the managed side has the state, but for the pins, of which it has none between entries
pub record ManagedFollows (past : List Noted) (m : ManagedModel) : Type 0 where
  pub threads : m.threads ≡ 8
  pub below : AllBelow m.entries (length past)
  pub state : m.state ≡ with_pins (state_of past).managed no_pins

-- no reference waits to be mirrored, and while handles are weakened there is room for those that are left
abbrev pub LeftFits : Stand → ℕ → ℕ → Type 0
LeftFits (control.weakening o count weakened swept) candidates left = count + left ≡ candidates
LeftFits _ candidates left = Unit {0}

pub record ReserveFollows (s : Linkage) (r : Reserve) : Type 0 where
  pub none_waits : r.waiting ≡ []
  pub left : LeftFits s.control.stand (length (candidates_of s.managed.managed)) r.left

-- the peer side has the state
pub record PeersFollow (past : List Noted) (m : PeerModel) : Type 0 where
  pub threads : m.threads ≡ 8
  pub below : AllBelow m.entries (length past)
  pub state : m.state ≡ (state_of past).peer
  pub reserve : ReserveFollows (state_of past) m.reserve

-- the pins of the threads 1 to 8, and the targets of the cells, are those of the state
abbrev pub shown_pins : List (Option MNum) → List (Option ℕ)
shown_pins pins = pins_given (drop 1 pins)

pub record StoresFollow (past : List Noted) (x : Readers) : Type 0 where
  pub nine : length x.pins ≡ 9
  pub pins : shown_pins x.pins ≡ (state_of past).managed.managed.pins
  pub many : length x.targets ≡ 64
  pub cells : map number_or_none x.targets ≡ (state_of past).managed.managed.cells

-- the pins behind a read by that thread
abbrev pub pins_read : List (Option MNum) → ℕ → Reply → List (Option MNum)
pins_read pins t (says.M m) = slice_set pins t (Some m)
pins_read pins t reply = pins

-- the part that an entry's own call makes longer
pub record SidesFollow (past : List Noted) (r : Replay) : Type 0 where
  pub drawn : r.draw.counter ≡ length past
  pub managed : ManagedFollows past r.managed
  pub peers : PeersFollow past r.peers
  pub stores : StoresFollow past r.readers
  pub cycle : CycleFollows (state_of past) r.cycle

-- a read waits for the snap of that cycle, which is the next one; or none waits
pub record IsOwed (past : List Noted) (k : ℕ) : Type 0 where
  pub waits : WaitsForSnap past k
  pub shut : (state_of past).managed.managed.cycle ≡ None
  pub next : k ≡ (state_of past).managed.managed.cycles + 1
  pub alone : (j : ℕ) → WaitsForSnap past j → j ≡ k

abbrev pub OwedFollows : List Noted → Option Cycle → Type 0
OwedFollows past None = (k : ℕ) → WaitsForSnap past k → ⊥
OwedFollows past (Some k) = IsOwed past k.0

-- the part that is noted once the entry is found in order
pub record CallersFollow (past : List Noted) (r : Replay) : Type 0 where
  pub turns : r.turns ≡ callers_of (state_of past).control
  pub counts : AreCountsOf past r.readers.counts
  pub owed : OwedFollows past r.readers.owed

-- all of it
pub record Follows (past : List Noted) (r : Replay) : Type 0 where
  pub sides : SidesFollow past r
  pub callers : CallersFollow past r

-- for which cycle's snap a read waits behind an event with that reply: for none behind a snap, and behind a `pending`
-- of a cycle that isn't snapped for that one
abbrev pub owed_by_read : ℕ → Reply → Option Cycle → Option Cycle
owed_by_read cycles (says.Pending k) owed = if nat_lt cycles k.0 then Some k else owed
owed_by_read cycles reply owed = owed

abbrev pub owed_after : ℕ → Op → Reply → Option Cycle → Option Cycle
owed_after cycles (op.Snap k) reply owed = None
owed_after cycles (op.Line (act.Read k)) reply owed = owed_by_read cycles reply owed
owed_after cycles (op.Line (act.Await k)) reply owed = owed_by_read cycles reply owed
owed_after cycles _ reply owed = owed

-- of the rest the call of an entry changes that alone
pub record KeepsRest (past : List Noted) (m : Made) (old new : Replay) : Type 0 where
  pub turns : new.turns ≡ old.turns
  pub counts : new.readers.counts ≡ old.readers.counts
  pub owed : new.readers.owed ≡ owed_after (state_of past).managed.managed.cycles m.op m.reply old.readers.owed
