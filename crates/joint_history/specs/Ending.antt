-- The end of a run: all seats are taken into one.
use Rattle.std.specs.Prelude.{◌≡◌, ◌⊎◌, ℕ, ◌+◌, List, [], ◌++◌, length, map, All, count_by, is_some, Contains, IsSome}
use Rattle.std.specs.Prelude.{slice_get, slice_index_or, slice_set}
use mathlib.Core.List.{IsPrefix}
use Rattle.joint_machine.specs.declared.names.Thread.{Thread}
use Rattle.joint_machine.specs.declared.names.Thread.TheVariants.{M, P, C}
use Rattle.joint_machine.specs.declared.events.Entry.{Entry}
use Rattle.joint_machine.specs.Histories.{Finished}
use Rattle.joint_machine.specs.Control.{idle, caller_place, doing_at, IsDone}
use Rattle.joint_machine.specs.HistoryLines.{caller_line, entries_in}
use Rattle.joint_machine.specs.Linked.{Linkage}
use Rattle.joint_machine.specs.LinkedHistories.{HasQueued, IsLinkedBy, linked_end}
use Rattle.joint_machine.specs.ManagedReplay.{ManagedReplay}
use Rattle.joint_machine.specs.PeerReplay.{PeerReplay}
use Rattle.joint_machine.specs.Sides.{Side}
use Rattle.joint_machine.specs.Told.{Noted}
use Rattle.known_laws.specs.Drawn.{of_drawn}
use Rattle.known_laws.specs.Growing.{all_shown}
use Rattle.known_laws.specs.Lists.{made_by}
use Rattle.known_laws.specs.Pasts.{Lawful, end_of, line}
use Rattle.known_laws.specs.Wholes.{history_of}
use Rattle.pin_laws.specs.Pins.{PinsHold}
use Rattle.order_table.specs.declared.views.View.{View}
use Rattle.order_table.specs.Gated.{IsGated}
use Rattle.order_table.specs.Rule.{AreLinesOfOneHistory}
use Rattle.order_table.specs.Views.{Owns, known}
use Rattle.joint_machine.specs.Lines.{IsDriver, IsThread}
use Rattle.joint_history.specs.Callers.{HoldsPass, Pass, own}
use Rattle.joint_history.specs.declared.ends.RunEnd.{RunEnd}
use Rattle.joint_history.specs.Desks.{Waiting, flat, present}
use Rattle.joint_history.specs.Knowing.{line_known}
use Rattle.view_laws.specs.Knowing.{IsDrawnView, drawn_lines}

-- the thread has come to rest: it has nothing to release, and the driver is idle
abbrev pub Rests : Thread → Linkage → Type 0
Rests (M n) s = IsDone (doing_at s.control n)
Rests (P n) s = Unit {0}
Rests C s = s.control.stand ≡ idle

-- the lists with a thread's reads at the place of its reader's line
abbrev pub with_reads : Thread → List Entry → List (List Entry) → List (List Entry)
with_reads (M n) es lists = slice_set lists (1 + n) es
with_reads (P n) es lists = lists
with_reads C es lists = lists

-- ten lists, in which the reads of these threads stand at the places of their readers' lines
pub record HasGatheredReads (v : View) (lists : List (List Entry)) (ts : List Thread) : Type 0 where
  pub ten : length lists ≡ 10
  pub reads : (n : ℕ) → Contains ts (M n) → slice_index_or lists (1 + n) [] ≡ line_known v (1 + n)

-- a seat that has taken in the seats of both sides and of these threads, which have come to rest
pub record HasGatheredSeats (v : View) (l : Side ManagedReplay)
    (r : Side PeerReplay) (lists : List (List Entry)) (ts : List Thread) : Type 0 where
  pub known : IsDrawnView v
  pub managed_role : Owns v 0
  pub peer_role : Owns v 1
  pub managed_entries : line_known v 0 ≡ l.entries
  pub managed : (end_of known.known.past).managed ≡ l.state
  pub peer_entries : line_known v 1 ≡ r.entries
  pub peer : (end_of known.known.past).peer ≡ r.state
  pub reads : HasGatheredReads v lists ts
  pub passes : (t : Thread) → Contains ts t → HoldsPass t v
  pub rests : (t : Thread) → Contains ts t → Rests t (end_of known.known.past)

-- a seat that has taken in the seats of both sides and of all threads
pub record AllAreIn (v : View) (l : Side ManagedReplay) (r : Side PeerReplay) (lists : List (List Entry)) : Type 0 where
  pub threads : List Thread
  pub gathered : HasGatheredSeats v l r lists threads
  pub all : (t : Thread) → IsThread t → Contains threads t

-- the driver's caller is idle
abbrev pub HasIdleDriver : Pass → Type 0
HasIdleDriver p = IsDriver p.thread → (a : IsDrawnView p.view) × ((end_of a.known.past).control.stand ≡ idle)

-- whatever was gathered, these threads' seats and reads are now too
abbrev pub GathersAll : View → View → List (List Entry) → List (List Entry) → List Thread → Type 0
GathersAll old new lists lists' more = (l : Side ManagedReplay) (r : Side PeerReplay) (ts : List Thread)
    → HasGatheredSeats old l r lists ts → HasGatheredSeats new l r lists' (ts ++ more)

-- the threads of callers
abbrev pub threads_of : List Pass → List Thread
threads_of ps = map (λ p. p.thread) ps

-- what one seat knows of each line begins what another knows of it
abbrev pub BeginsView : View → View → Type 0
BeginsView v w = (i : ℕ) → IsPrefix (known v i) (known w i)

-- a seat took in the seats of these callers: it owns what it owned and knows the same of it, it owns each caller's line
-- and knows of it just what the caller knew, and what it knew and what each caller knew begins what it knows
pub record TakesOwn (old new : View) (ps : List Pass) : Type 0 where
  pub kept : (i : ℕ) → Owns old i → Owns new i × (known new i ≡ known old i)
  pub knew : BeginsView old new
  pub each : (p : Pass) → Contains ps p → IsThread p.thread × Owns new (caller_line p.thread)
      × (line_known new (caller_line p.thread) ≡ own p) × BeginsView p.view new

-- the thread's caller was given out to nobody
abbrev pub StillWaits : Waiting → Thread → Type 0
StillWaits d t = IsSome (flat (slice_get d.callers (caller_place t)))

-- each thread's caller still waits or is one of these
abbrev pub HasAll : Waiting → List Pass → Type 0
HasAll d ps = (t : Thread) → IsThread t → StillWaits d t ⊎ Contains (threads_of ps) t

-- of the entries of a history just these were made by the caller
abbrev pub HasOwn : List Entry → Pass → Type 0
HasOwn entries p = made_by p.thread entries ≡ own p

-- what the caller knows of the managed list is a beginning of the history's
abbrev pub BeginsHistory : List Entry → Pass → Type 0
BeginsHistory es p = IsPrefix (line_known p.view 0) (entries_in 0 es)

-- what the caller knows of each line, with the pins that were told, is a beginning of this past's line
abbrev pub BeginsPast : List Noted → Pass → Type 0
BeginsPast past p = (i : ℕ) → IsPrefix (of_drawn (drawn_lines p.view i)) (all_shown (line i past))

-- a history is linked by the notes of a lawful past, and what these callers know is a beginning of that past
pub record IsKnownHistory (callers : List Pass) (h : Finished) : Type 0 where
  pub past : List Noted
  pub lawful : Lawful past
  pub linked : IsLinkedBy h (history_of past)
  pub begins : All (BeginsPast past) callers

-- a history is linked by these notes, its list of notices is all that was ever queued, its reads are such as the gate
-- lets in, and what a read gave to a thread stays in its pin, unfreed, up to that thread's next `take`
pub record IsFinishedBy (h : Finished) (noted : List Noted) : Type 0 where
  pub linked : IsLinkedBy h noted
  pub queued : HasQueued h noted
  pub gated : IsGated noted
  pub pinned : PinsHold noted

-- so it is by some notes
pub record IsFinished (h : Finished) : Type 0 where
  pub noted : List Noted
  pub finished : IsFinishedBy h noted

-- the seats of both sides, of the callers that were given out and of those that still wait were taken into one, which
-- knows the whole history
pub record AllTaken (l : Side ManagedReplay) (r : Side PeerReplay)
    (lists : List (List Entry)) (d : Waiting) (callers : List Pass) : Type 0 where
  pub before : View
  pub seat : View
  pub gathered : AllAreIn seat l r lists
  pub whole : AreLinesOfOneHistory seat.known
  pub own : TakesOwn before seat (callers ++ present d.callers)
  pub waiting : (t : Thread) → IsThread t → StillWaits d t → line_known seat (caller_line t) ≡ []

-- the lists of both sides before those of the readers, which stand at the places of their lines
abbrev pub all_lists : List Entry → List Entry → List (List Entry) → List (List Entry)
all_lists left right lists = slice_set (slice_set lists 0 left) 1 right

-- the numbers are those of these states of both sides: how many cycles were opened, how many objects and handles were
-- made, and how many of them are left
pub record AreNumbersOf (e : RunEnd) (l : ManagedReplay) (r : PeerReplay) : Type 0 where
  pub cycles : e.cycles ≡ l.managed.cycles
  pub managed : e.managed.all ≡ length l.managed.heap.fields
  pub managed_left : e.managed.left + length l.managed.heap.freed ≡ length l.managed.heap.fields
  pub peers : e.peers.all ≡ length r.peers.heap.fields
  pub peers_left : e.peers.left + length r.peers.heap.freed ≡ length r.peers.heap.fields
  pub handles : e.handles.all ≡ r.peers.made
  pub handles_left : e.handles.left ≡ count_by is_some r.table

-- a history is finished by notes after which both sides' states have these numbers
pub record HasEndNumbers (e : RunEnd) : Type 0 where
  pub noted : List Noted
  pub finished : IsFinishedBy e.history noted
  pub numbers : AreNumbersOf e (linked_end noted).managed (linked_end noted).peer
