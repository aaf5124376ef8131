-- What a seat knows is a past of the one run, with the pins that were given to snaps and takes beside these. It stays
-- so where the seat makes an entry, takes another seat in, or gives lines away.
use Rattle.std.specs.Prelude.{◌≡◌, ◌↔◌, false, ℕ, ◌+◌, ◌<◌, List, [], ◌∷◌, length, map, slice_index_or, Option, Some}
use Rattle.std.specs.Prelude.{None}
use Rattle.joint_machine.specs.declared.names.MNum.{MNum}
use Rattle.joint_machine.specs.declared.names.PNum.{PNum}
use Rattle.joint_machine.specs.declared.names.Thread.{Thread}
use Rattle.joint_machine.specs.declared.events.Entry.{Entry}
use Rattle.joint_machine.specs.Draws.{Drawn}
use Rattle.joint_machine.specs.Heaps.{IsLive, slot}
use Rattle.joint_machine.specs.Heaps as heaps
use Rattle.joint_machine.specs.Managed.{Managed, OpenCycle}
use Rattle.joint_machine.specs.HistoryLines.{caller_line}
use Rattle.joint_machine.specs.Histories.{Finished}
use Rattle.joint_machine.specs.Shuffles.{IsJoinable, IsShuffle}
use Rattle.joint_machine.specs.Lines.{IsThread, is_read}
use Rattle.joint_machine.specs.Told.{Told, Noted}
use Rattle.joint_machine.specs.PinsTold.{bare_told, pins_told}
use Rattle.known_laws.specs.Growing.{Kept, AreKnown, AreJoined}
use Rattle.known_laws.specs.Known.{Comes, PinsStand, past_after}
use Rattle.known_laws.specs.PastEntries.{TellsPlainly}
use Rattle.known_laws.specs.Drawn.{KeptDrawn, AreDrawn, DrawnJoin, drawn}
use Rattle.known_laws.specs.Lists.{made_by}
use Rattle.known_laws.specs.Pasts.{end_of}
use Rattle.known_laws.specs.Wholes.{HasEnded, IsLinkedPast, history_of}
use Rattle.order_table.specs.declared.views.KeptEntry.{KeptEntry}
use Rattle.order_table.specs.declared.views.View.{View}
use Rattle.order_table.specs.Replies.{object_of}
use Rattle.order_table.specs.Rows.{at}
use Rattle.order_table.specs.Facts.{entries_of, line_entries}
use Rattle.order_table.specs.Gated.{IsGated}
use Rattle.order_table.specs.Rule.{IsBelow, IsHeld, AreLinesOfOneHistory}
use Rattle.order_table.specs.Tells.{GrowsByEntry, TakesIn, BeginsOneHistory}
use Rattle.order_table.specs.Owed.{target, is_freed}
use Rattle.order_table.specs.Stages.{IsClosed}
use Rattle.order_table.specs.Views.{IsInRole, IsNext, IsOpen, known, first_view}

-- the pins of the eight readers, at the places 1 to 8
abbrev pub row : (ℕ → Option ℕ) → List (Option ℕ)
row f = None ∷ f 1 ∷ f 2 ∷ f 3 ∷ f 4 ∷ f 5 ∷ f 6 ∷ f 7 ∷ f 8 ∷ []

-- the pins by their words
abbrev pub pins_of : List ℕ → List (Option ℕ)
pins_of ws = row (λ r. object_of (at 0 ws r))

abbrev pub of_kept : KeptEntry → Kept
of_kept k = record { entry = k.entry; pins = pins_of k.pins }

-- the lines that a view knows
abbrev pub lines_of : View → ℕ → List Kept
lines_of v i = map of_kept (known v i)

-- what a view knows are the lines of a lawful past
abbrev pub IsKnownView : View → Type 0
IsKnownView v = AreKnown (lines_of v)

-- the first seat knows nothing
abbrev pub FirstIsKnown : Type 0
FirstIsKnown = IsKnownView first_view

-- an entry with what is told beside it
abbrev pub note_of : KeptEntry → Told → Noted
note_of k told = record { entry = k.entry; told = told }

-- what is known now is the past with that entry. What was told plainly is told of it, with the same pins; the sides'
-- states are those after it in any case.
pub record KnowsMore (past : List Noted) (n : Noted) (w : View) : Type 0 where
  pub known : IsKnownView w
  pub told : Told
  pub past_is : known.past ≡ record { entry = n.entry; told = told } ∷ past
  pub alike : TellsPlainly (end_of past).control.stand n.entry.made.op (bare_told n.told) → told ≡ n.told
  pub pins : pins_told told ≡ pins_told n.told
  pub managed : (end_of known.past).managed ≡ (past_after (end_of past) n).managed
  pub peer : (end_of known.past).peer ≡ (past_after (end_of past) n).peer

-- a seat that made an entry which may come after its past, with a number above all that it knew and the pins that it is
-- told with, knows that past with the entry
abbrev pub ViewsGrow : Type 0
ViewsGrow = (v w : View) (r : ℕ) (k : KeptEntry) (a : IsKnownView v) (told : Told) → GrowsByEntry v w r k
    → IsInRole r k.entry.made → ((i : ℕ) → IsBelow k.entry.number (known v i)) → pins_of k.pins ≡ pins_told told
    → Comes (is_read k.entry.made.op) (end_of a.past) (note_of k told) → KnowsMore a.past (note_of k told) w

-- a seat that took another one in knows a past again, in which each line, and what it gives, is that of the one or of
-- the other
abbrev pub ViewsJoin : Type 0
ViewsJoin = (v w u : View) (a : IsKnownView v) (b : IsKnownView w) → TakesIn v w u
    → BeginsOneHistory u → AreJoined a.past b.past (lines_of v) (lines_of w) (lines_of u)

-- the view is known by the same past
pub record IsKnownBy (past : List Noted) (w : View) : Type 0 where
  pub known : IsKnownView w
  pub past_is : known.past ≡ past

-- so it is of a seat that knows the same, as after a seat gave lines away
abbrev pub SameIsKnown : Type 0
SameIsKnown = (v w : View) (a : IsKnownView v) → ((i : ℕ) → known w i ≡ known v i) → IsKnownBy a.past w

-- an entry as the order keeps it, and as it is drawn
abbrev pub of_drawing : KeptEntry → Drawn
of_drawing k = record { entry = k.entry; target = k.target; freed = k.freed }

abbrev pub of_order : KeptEntry → KeptDrawn
of_order k = record { drawn = of_drawing k; pins = pins_of k.pins }

-- what a view knows, as it is drawn
abbrev pub drawn_lines : View → ℕ → List KeptDrawn
drawn_lines v i = map of_order (known v i)

abbrev pub IsDrawnView : View → Type 0
IsDrawnView v = AreDrawn (drawn_lines v)

-- a history is linked if its entries are those of the whole that a view knows, and the view's past has ended; it ends
-- in the past's state, but for the pins
abbrev pub WholeViewIsLinked : Type 0
WholeViewIsLinked = (h : Finished) (v : View) (a : IsDrawnView v) (w : AreLinesOfOneHistory v.known)
    → h.entries ≡ entries_of w.whole → HasEnded h (end_of a.known.past) → IsLinkedPast h a.known.past

-- and its reads are such as the gate lets in
abbrev pub WholeViewIsGated : Type 0
WholeViewIsGated = (v : View) (a : IsDrawnView v) → AreLinesOfOneHistory v.known → IsGated (history_of a.known.past)

-- the lists of both sides and of the readers, each at the place of its line: what a view knows of these lines
pub record AreListsOf (v : View) (lists : List (List Entry)) : Type 0 where
  pub ten : length lists ≡ 10
  pub each : (i : ℕ) → i < 10 → slice_index_or lists i [] ≡ line_entries (known v i)

-- they are a shuffle of the whole that the view knows
abbrev pub WholeListsAreShuffle : Type 0
WholeListsAreShuffle = (v : View) (w : AreLinesOfOneHistory v.known) (lists : List (List Entry))
    → AreListsOf v lists → IsShuffle lists (entries_of w.whole)

-- what such lists give: they can be joined with the lists that were freed and queued, and the history that is joined of
-- them is linked by the view's past
pub record JoinsToLinked (v : View) (a : IsDrawnView v) (lists : List (List Entry))
    (whole : List Entry) (ms : List MNum) (ps : List PNum) (ns : List MNum) : Type 0 where
  pub joinable : IsJoinable lists ms ps ns
  pub linked : (h : Finished) → IsShuffle lists h.entries → h.freed_managed ≡ ms
      → h.freed_peers ≡ ps → h.notices ≡ ns → IsLinkedPast h a.known.past × (h.entries ≡ whole)

-- once the view's past has ended, as the lists that were freed and queued say
abbrev pub WholeListsAreJoined : Type 0
WholeListsAreJoined = (v : View) (a : IsDrawnView v) (w : AreLinesOfOneHistory v.known)
    (lists : List (List Entry)) (ms : List MNum) (ps : List PNum) (ns : List MNum) → AreListsOf v lists
    → HasEnded (record { entries = entries_of w.whole; freed_managed = ms; freed_peers = ps; notices = ns })
    (end_of a.known.past) → JoinsToLinked v a lists (entries_of w.whole) ms ps ns

-- pins by words that were loaded stand for who owns the managed list, as the order says of each word that names an
-- object
abbrev pub PinsOfViewsStand : Type 0
PinsOfViewsStand = (v : View) (a : IsDrawnView v) (ws : List ℕ)
    → ((r m : ℕ) → 0 < r → r < 9 → at 0 ws r ≡ m + 1 → IsHeld (known v 0) r m)
    → PinsStand (end_of a.known.past).managed.managed (pins_of ws)

-- as it is drawn, what a seat knows goes on so: by an entry that it made, as it is drawn behind its past
pub record DrawsMore (past : List Noted) (n : Noted) (w : View) : Type 0 where
  pub known : IsDrawnView w
  pub told : Told
  pub past_is : known.known.past ≡ record { entry = n.entry; told = told } ∷ past
  pub alike : TellsPlainly (end_of past).control.stand n.entry.made.op (bare_told n.told) → told ≡ n.told
  pub pins : pins_told told ≡ pins_told n.told
  pub managed : (end_of known.known.past).managed ≡ (past_after (end_of past) n).managed
  pub peer : (end_of known.known.past).peer ≡ (past_after (end_of past) n).peer

abbrev pub DrawnViewsGrow : Type 0
DrawnViewsGrow = (v w : View) (r : ℕ) (k : KeptEntry) (a : IsDrawnView v) (told : Told) → GrowsByEntry v w r k
    → IsInRole r k.entry.made → ((i : ℕ) → IsBelow k.entry.number (known v i)) → pins_of k.pins ≡ pins_told told
    → drawn (end_of a.known.past) (note_of k told) ≡ of_drawing k
    → Comes (is_read k.entry.made.op) (end_of a.known.past) (note_of k told)
    → DrawsMore a.known.past (note_of k told) w

-- and by what another seat knows
abbrev pub DrawnViewsJoin : Type 0
DrawnViewsJoin = (v w u : View) (a : IsDrawnView v) (b : IsDrawnView w) → TakesIn v w u
    → BeginsOneHistory u → DrawnJoin a.known.past b.known.past (drawn_lines v) (drawn_lines w) (drawn_lines u)

-- what a view's managed list says of cells, of freed objects and of cycles is what a state has
pub record SaysState (v : View) (s : Managed) : Type 0 where
  pub cells : (c : ℕ) → target (known v 0) c ≡ slot s.cells c
  pub freed : (m : ℕ) → is_freed (known v 0) m ≡ heaps.is_freed s.heap m
  pub closed : s.cycle ≡ None → IsClosed (known v 0) × IsNext v (s.cycles + 1)
  pub opened : (c : OpenCycle) → s.cycle ≡ Some c → IsOpen v c.number

-- the state at the end of its past is such a one
abbrev pub ViewsSayStates : Type 0
ViewsSayStates = (v : View) (a : IsDrawnView v) → SaysState v (end_of a.known.past).managed.managed

-- the targets of cells that are live are those which the managed list doesn't free
abbrev pub TargetsAgree : Type 0
TargetsAgree = (v : View) (a : IsDrawnView v) (c m : ℕ) → target (known v 0) c ≡ Some m
    → (IsLive (end_of a.known.past).managed.managed.heap m ↔ (is_freed (known v 0) m ≡ false))

-- the line of a thread that a view of a whole history knows has just the entries that this thread made
abbrev pub OwnLinesAreMadeByCallers : Type 0
OwnLinesAreMadeByCallers = (v : View) (a : IsDrawnView v) (w : AreLinesOfOneHistory v.known) (t : Thread)
    → IsThread t → line_entries (known v (caller_line t)) ≡ made_by t (entries_of w.whole)
