-- What a side's seat knows under its lock, and what a locked call does to the caller's seat.
use Rattle.std.specs.Prelude.{◌≡◌, ℕ, ◌+◌, ◌≤◌, Bool, true, false, List, [], ◌∷◌, ◌++◌, length, Option, Some, None}
use mathlib.Core.List.{IsPrefix}
use Rattle.joint_machine.specs.declared.names.MNum.{MNum}
use Rattle.joint_machine.specs.declared.names.Thread.{Thread}
use Rattle.joint_machine.specs.declared.names.Thread.TheVariants.{M, P, C}
use Rattle.joint_machine.specs.declared.names.Var.{Var}
use Rattle.joint_machine.specs.declared.events.Entry.{Entry}
use Rattle.joint_machine.specs.declared.events.Made.{Made}
use Rattle.joint_machine.specs.declared.events.Op.{Op}
use Rattle.joint_machine.specs.declared.events.Op.TheVariants as op
use Rattle.joint_machine.specs.declared.events.Reply.{Reply}
use Rattle.joint_machine.specs.Control.{Control, Doing, free, doing_at, doing_after, last_line, ThreadAllows}
use Rattle.joint_machine.specs.Draws.{numbered}
use Rattle.joint_machine.specs.Managed.{candidates_of}
use Rattle.joint_machine.specs.HistoryLines.{caller_line}
use Rattle.joint_machine.specs.Lines.{is_read}
use Rattle.joint_machine.specs.Linked.{Linkage}
use Rattle.joint_machine.specs.ManagedReplay.{ManagedReplay}
use Rattle.joint_machine.specs.PeerReplay.{PeerReplay, Mirror}
use Rattle.joint_machine.specs.Run.{thread_number}
use Rattle.joint_machine.specs.Sides.{Side, SideRules, GoesOn, managed_rules}
use Rattle.joint_machine.specs.Told.{Told, kept_pins, nothing}
use Rattle.joint_machine.specs.PinsTold.{pins_told}
use Rattle.known_laws.specs.Known.{Comes, PinsStand}
use Rattle.known_laws.specs.Pasts.{end_of}
use Rattle.managed_heap.specs.Pinned.{pin_given}
use Rattle.managed_heap.specs.Steps.{take_op}
use Rattle.peer_heap.specs.Sides.{PeerModel}
use Rattle.order_table.specs.declared.views.KeptEntry.{KeptEntry}
use Rattle.order_table.specs.declared.views.View.{View}
use Rattle.order_table.specs.Rule.{IsBelow}
use Rattle.order_table.specs.Tells.{BeginsOneHistory, GrowsByEntry}
use Rattle.order_table.specs.Views.{OrderId, Shown, known}
use Rattle.joint_history.specs.Knowing.{line_known, note_of}
use Rattle.view_laws.specs.Knowing.{IsDrawnView, pins_of}

-- a side's seat knows a past: that line, the side's own, is the side's list, and at its end that part, the side's own,
-- is as this one
pub record SideKnows {S : Type 0} (r : ℕ) (part : Linkage → S) (v : View) (s : Side S) : Type 0 where
  pub known : IsDrawnView v
  pub entries : line_known v r ≡ s.entries
  pub state : part (end_of known.known.past) ≡ s.state

-- so it is of the managed side's seat
abbrev pub ManagedKnows : View → Side ManagedReplay → Type 0
ManagedKnows v s = SideKnows 0 (λ l. l.managed) v s

-- and of the peer side's
abbrev pub PeerKnows : View → Side PeerReplay → Type 0
PeerKnows v s = SideKnows 1 (λ l. l.peer) v s

-- the own marking of a mirrored cycle is still to come: a mirror brings that about, and the driver's begin and its
-- clear end it
abbrev pub due_after : Thread → Op → Bool → Bool
due_after C (op.Mirror k) due = true
due_after C op.Begin due = false
due_after C (op.Clear k) due = false
due_after t o due = due

abbrev pub due_from : Bool → List Entry → Bool
due_from due [] = due
due_from due (e ∷ es) = due_from (due_after e.made.caller e.made.op due) es

-- so it is after these entries
abbrev pub is_marking_due : List Entry → Bool
is_marking_due es = due_from false es

-- while a cycle is mirrored, the handles that were weakened in it and those that may still be are together at least its
-- candidates
abbrev pub HasRoomToWeaken : Linkage → ℕ → Type 0
HasRoomToWeaken s left = (m : Mirror) → s.peer.mirror ≡ Some m
    → length (candidates_of s.managed.managed) ≤ length m.weakened + left

-- what is reserved on the peer side while its lock is free, by what its seat knows: no reference waits; each candidate
-- of a mirrored cycle can be weakened; and there is room for the cycle's own marking as long as that is still to come
pub record PeerReserves (v : View) (s : PeerModel) : Type 0 where
  pub none_waits : s.reserve.waiting ≡ []
  pub room : (k : IsDrawnView v) → (end_of k.known.past).peer ≡ s.state
      → HasRoomToWeaken (end_of k.known.past) s.reserve.left
  pub marking : s.reserve.marking ≡ is_marking_due s.entries

-- what a thread is in the midst of; only a managed thread's operations have more than one entry
abbrev pub doing_of : Thread → Control → Doing
doing_of (M n) s = doing_at s n
doing_of t s = free

-- a caller stands so: the line of its last entry isn't above this one, and it is in the midst of this
pub record Stands (t : Thread) (v : View) (index : ℕ) (d : Doing) : Type 0 where
  pub known : IsDrawnView v
  pub last : last_line (end_of known.known.past).control t ≤ index
  pub doing : doing_of t (end_of known.known.past).control ≡ d

-- it is the thread's turn to make the event on that line, by what it is in the midst of
abbrev pub IsTurn : Thread → Doing → ℕ → Op → Option ℕ → Type 0
IsTurn (M n) d index o cites = ThreadAllows d (M n) index o cites
IsTurn (P n) d index o cites = cites ≡ None
IsTurn C d index o cites = ⊥

-- so it is by what the thread's seat knows
pub record MayMake (t : Thread) (v : View) (index : ℕ) (o : Op) (cites : Option ℕ) : Type 0 where
  pub doing : Doing
  pub stands : Stands t v index doing
  pub turn : IsTurn t doing index o cites

-- what a thread is in the midst of after its entry
abbrev pub doing_from : Thread → Entry → Doing
doing_from (M n) e = doing_after e.number e.made.index e.made.op e.made.reply
doing_from t e = free

-- the caller made an entry: it knows all that it knew, and that entry as its last, whose number is above all that it
-- knew; and the entry may come after a past, with what is told beside it
pub record Makes (t : Thread) (old new : View) (e : Entry) : Type 0 where
  pub own : line_known new (caller_line t) ≡ line_known old (caller_line t) ++ e ∷ []
  pub more : (i : ℕ) → IsPrefix (known old i) (known new i)
  pub above : (i : ℕ) → IsBelow e.number (known old i)
  pub stands : Stands t new e.made.index (doing_from t e)
  pub state : Linkage
  pub told : Told
  pub comes : Comes (is_read e.made.op) state (note_of e told)

-- the caller made no entry: it knows all that it knew, and stands where it stood
pub record MakesNone (t : Thread) (old new : View) : Type 0 where
  pub own : line_known new (caller_line t) ≡ line_known old (caller_line t)
  pub more : (i : ℕ) → IsPrefix (known old i) (known new i)
  pub stands : (index : ℕ) (d : Doing) → Stands t old index d → Stands t new index d

-- what a caller makes
abbrev pub made_by : Thread → ℕ → Op → Reply → Option ℕ → Made
made_by t index o reply cites = record { caller = t; index = index; op = o; reply = reply; cites = cites }

-- a seat made no entry and gave nothing away: it owns and knows what it did
pub record StaysSeated (old new : Shown) : Type 0 where
  pub order : new.order ≡ old.order
  pub owns : new.view.owns ≡ old.view.owns
  pub known : new.view.known ≡ old.view.known

-- a seat made an entry in a side's list: its number is above all that the seat knew, and what the seat knows now is of
-- one history
pub record HasAppended (order : OrderId) (old new : Shown) (r : ℕ) (k : KeptEntry) : Type 0 where
  pub same : new.order ≡ old.order
  pub grows : GrowsByEntry old.view new.view r k
  pub number : (i : ℕ) → IsBelow k.entry.number (known old.view i)
  pub one_history : BeginsOneHistory new.view

-- the side drew one entry by its seat, with the object to which it sets a cell, the objects that it frees and the pins
-- that are told, and put it last: the entry may come next in its list, and the side's state is the one after it
pub record Drew {S : Type 0} (r : SideRules S) (line : ℕ) (order : OrderId)
    (seat seat' : Shown) (side side' : Side S) (e : Entry) (told : Told) : Type 0 where
  pub kept : KeptEntry
  pub entry : kept.entry ≡ e
  pub target : kept.target ≡ r.target side.state e.made
  pub freed : kept.freed ≡ r.frees told
  pub pins : pins_of kept.pins ≡ pins_told told
  pub appends : HasAppended order seat seat' line kept
  pub added : side'.entries ≡ side.entries ++ e ∷ []
  pub goes : GoesOn r side.state e.made told side'.state

-- what is under a side's lock: the side, and what its seat knows
pub record Under (S : Type 0) : Type 0 where
  pub side : S
  pub view : View

-- the side drew a `take` of the object of its thread's pin, which is live and in no open cycle's dead part
pub record TakesPin (order : OrderId) (seat seat' : Shown) (side side' : Side ManagedReplay)
    (t : Thread) (index : ℕ) (v : Var) (r : ℕ × Reply) : Type 0 where
  pub pin : Option MNum
  pub stands : PinsStand side.state.managed (pin_given (thread_number t) pin)
  pub drew : Drew managed_rules 0 order seat seat' side side'
      (numbered r.0 (made_by t index (take_op v) r.1 None)) (kept_pins (pin_given (thread_number t) pin) nothing)
