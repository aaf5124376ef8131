-- Known lines: how they grow by an entry and are joined, and what they are at the end of a run.
use Rattle.joint_machine.specs.Sides.{objects_freed}
use Rattle.std.specs.Prelude.{◌≡◌, ℕ, ◌<◌, ◌⊎◌, if◌then◌else◌, List, [], ◌∷◌, ◌++◌, map, Option, Some}
use mathlib.Core.List.{IsPrefix}
use Rattle.joint_machine.specs.declared.names.Thread.{Thread}
use Rattle.joint_machine.specs.declared.names.Thread.TheVariants.{M}
use Rattle.joint_machine.specs.declared.events.Entry.{Entry}
use Rattle.joint_machine.specs.Control.{doing_at, last_line}
use Rattle.joint_machine.specs.Managed.{candidates_of}
use Rattle.joint_machine.specs.Linked.{Linkage, opening_linkage}
use Rattle.joint_machine.specs.PeerReplay.{Mirror}
use Rattle.joint_machine.specs.Told.{Told, Noted, nothing, kept_pins}
use Rattle.joint_machine.specs.PinsTold.{bare_told, pins_told}
use Rattle.known_laws.specs.Known.{Comes, past_after}
use Rattle.known_laws.specs.PastEntries.{TellsPlainly, InPast, turned}
use Rattle.known_laws.specs.Pasts.{is_in, line, end_of, Lawful, HasSameDeadPart, driver_line}
use Rattle.joint_machine.specs.HistoryLines.{caller_line, stands_in}
use Rattle.joint_machine.specs.Lines.{is_read}
use Rattle.joint_machine.specs.Histories.{NumberedFrom}

-- an entry as a line keeps it: with the pins that were given to a snap or a `take`, and no pins with any other
pub record Kept : Type 0 where
  pub entry : Entry
  pub pins : List (Option ℕ)

-- such an entry of which nothing else is told
abbrev pub untold : Kept → Noted
untold k = record { entry = k.entry; told = kept_pins k.pins nothing }

-- notes as lines keep them
abbrev pub shown : Noted → Kept
shown n = record { entry = n.entry; pins = pins_told n.told }

abbrev pub all_shown : List Noted → List Kept
all_shown ns = map shown ns

abbrev pub entries_kept : List Kept → List Entry
entries_kept ks = map (λ k. k.entry) ks

-- a line of a list
abbrev pub kept_in : ℕ → List Kept → List Kept
kept_in i [] = []
kept_in i (k ∷ ks) = if stands_in i k.entry then k ∷ kept_in i ks else kept_in i ks

-- lines are known: they are those of a lawful past
pub record AreKnown (lines : ℕ → List Kept) : Type 0 where
  pub past : List Noted
  pub lawful : Lawful past
  pub same : (i : ℕ) → lines i ≡ all_shown (line i past)

-- before anything is known
abbrev pub NothingIsKnown : Type 0
NothingIsKnown = AreKnown (λ i. [])

-- the lines with a further entry
abbrev pub grown : (ℕ → List Kept) → Kept → ℕ → List Kept
grown lines k i = if is_in i (untold k) then lines i ++ k ∷ [] else lines i

-- all numbers are below n
abbrev pub AreBelow : ℕ → List Kept → Type 0
AreBelow n [] = Unit {0}
AreBelow n (k ∷ ks) = (k.entry.number < n) × AreBelow n ks

-- the past has grown by the entry; what was told plainly of it is told of it, with the same pins, and the sides' states
-- are those after it in any case
pub record HasGrown (lines : ℕ → List Kept) (past : List Noted) (n : Noted) : Type 0 where
  pub told : Told
  pub lawful : Lawful (record { entry = n.entry; told = told } ∷ past)
  pub same : (i : ℕ) → grown lines (shown n) i ≡ all_shown (line i (record { entry = n.entry; told = told } ∷ past))
  pub alike : TellsPlainly (end_of past).control.stand n.entry.made.op (bare_told n.told) → told ≡ n.told
  pub pins : pins_told told ≡ pins_told n.told
  pub freed : objects_freed (bare_told told) ≡ objects_freed (bare_told n.told)
  pub managed : (past_after (end_of past) (record { entry = n.entry; told = told })).managed
      ≡ (past_after (end_of past) n).managed
  pub peer : (past_after (end_of past) (record { entry = n.entry; told = told })).peer
      ≡ (past_after (end_of past) n).peer

-- an entry of any list may be added that may come after the past and whose number is above all that is known
abbrev pub KnownLinesGrow : Type 0
KnownLinesGrow = (lines : ℕ → List Kept) (k : AreKnown lines) (n : Noted)
    → ((i : ℕ) → AreBelow n.entry.number (lines i))
    → Comes (is_read n.entry.made.op) (end_of k.past) n → HasGrown lines k.past n

-- the lines are beginnings of those of the whole
abbrev pub Begin : List Kept → (ℕ → List Kept) → Type 0
Begin whole lines = (i : ℕ) → IsPrefix (lines i) (kept_in i whole)

-- of each line the one or the other, and no shorter
pub record AreLonger (ls ms ns : ℕ → List Kept) : Type 0 where
  pub either : (i : ℕ) → (ns i ≡ ls i) ⊎ (ns i ≡ ms i)
  pub first : (i : ℕ) → IsPrefix (ls i) (ns i)
  pub second : (i : ℕ) → IsPrefix (ms i) (ns i)

-- the longer lines are known; a line that is the first one's is so with what is told; each entry stays with what is
-- told of it; and each side's state is that of the longer line
pub record AreJoined (a b : List Noted) (ls ms ns : ℕ → List Kept) : Type 0 where
  pub joined : AreKnown ns
  pub first : (i : ℕ) → ns i ≡ ls i → line i joined.past ≡ line i a
  pub second : (i : ℕ) → ns i ≡ ms i → line i joined.past ≡ line i b
  pub first_stay : (x : Noted) → InPast a x → InPast joined.past x
  pub second_stay : (x : Noted) → InPast b x → InPast joined.past x
  pub managed_first : ns 0 ≡ ls 0 → (end_of joined.past).managed ≡ (end_of a).managed
  pub managed_second : ns 0 ≡ ms 0 → (end_of joined.past).managed ≡ (end_of b).managed
  pub peer_first : ns 1 ≡ ls 1 → (end_of joined.past).peer ≡ (end_of a).peer
  pub peer_second : ns 1 ≡ ms 1 → (end_of joined.past).peer ≡ (end_of b).peer

-- two seats of one run know of each line together what the one or the other knows
abbrev pub KnownLinesJoin : Type 0
KnownLinesJoin = (whole : List Kept) (ls ms ns : ℕ → List Kept) (a : AreKnown ls) (b : AreKnown ms)
    → NumberedFrom 0 (entries_kept whole) → Begin whole ls → Begin whole ms
    → AreLonger ls ms ns → AreJoined a.past b.past ls ms ns

-- the managed line gives the managed side's state, the peer line the peer side's, and each caller's line what that
-- caller does
pub record GivesParts (a b : List Noted) : Type 0 where
  pub managed : line 0 a ≡ line 0 b → (end_of a).managed ≡ (end_of b).managed
  pub peer : line 1 a ≡ line 1 b → (end_of a).peer ≡ (end_of b).peer
  pub stand : line driver_line a ≡ line driver_line b → (end_of a).control.stand ≡ (end_of b).control.stand
  pub doing : (t : ℕ) → line (caller_line (M t)) a ≡ line (caller_line (M t)) b
      → doing_at (end_of a).control t ≡ doing_at (end_of b).control t
  pub last : (t : Thread) → line (caller_line t) a ≡ line (caller_line t) b
      → last_line (end_of a).control t ≡ last_line (end_of b).control t

-- so it is of any two pasts
abbrev pub LinesGiveParts : Type 0
LinesGiveParts = (a b : List Noted) → GivesParts a b

-- while the driver's line stays, the open cycle's dead part is what it was, whatever the others did
abbrev pub DeadPartStays : Type 0
DeadPartStays = (whole : List Kept) (ls ms : ℕ → List Kept) (a : AreKnown ls) (b : AreKnown ms)
    → NumberedFrom 0 (entries_kept whole) → Begin whole ls → Begin whole ms → ls driver_line ≡ ms driver_line
    → HasSameDeadPart (end_of a.past).managed.managed (end_of b.past).managed.managed

-- what two seats know of one mirrored cycle has the same candidates
abbrev pub MirroredCandidatesStay : Type 0
MirroredCandidatesStay = (whole : List Kept) (ls ms : ℕ → List Kept) (a : AreKnown ls) (b : AreKnown ms)
    → NumberedFrom 0 (entries_kept whole) → Begin whole ls → Begin whole ms
    → (m n : Mirror) → (end_of a.past).peer.mirror ≡ Some m → (end_of b.past).peer.mirror ≡ Some n → m.snap ≡ n.snap
    → candidates_of (end_of a.past).managed.managed ≡ candidates_of (end_of b.past).managed.managed

-- the state after the entries of a past, earliest first, and that each may come when it comes
abbrev pub past_replayed : Linkage → List Noted → Linkage
past_replayed s [] = s
past_replayed s (n ∷ ns) = past_replayed (past_after s n) ns

abbrev pub AllCome : Linkage → List Noted → Type 0
AllCome s [] = Unit {0}
AllCome s (n ∷ ns) = Comes (is_read n.entry.made.op) s n × AllCome (past_after s n) ns

-- the past, earliest entry first, has these entries, each may come when it comes, and the last state is the past's end
pub record IsTurnedPast (whole : List Kept) (past : List Noted) : Type 0 where
  pub same : all_shown (turned [] past) ≡ whole
  pub lawful : AllCome opening_linkage (turned [] past)
  pub ends : past_replayed opening_linkage (turned [] past) ≡ end_of past

-- once all lines are known whole
abbrev pub AreWhole : List Kept → (ℕ → List Kept) → Type 0
AreWhole whole lines = (i : ℕ) → lines i ≡ kept_in i whole

abbrev pub KnownWholeIsHistory : Type 0
KnownWholeIsHistory = (whole : List Kept) (lines : ℕ → List Kept) (k : AreKnown lines)
    → NumberedFrom 0 (entries_kept whole) → AreWhole whole lines → IsTurnedPast whole k.past
