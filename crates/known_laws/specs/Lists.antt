-- Each side's own list, as a past has it: lawful by itself, and giving that side's state.
use Rattle.std.specs.Prelude.{◌≡◌, ℕ, List, filter, map}
use Rattle.joint_machine.specs.declared.names.Thread.{Thread}
use Rattle.joint_machine.specs.declared.events.Entry.{Entry}
use Rattle.joint_machine.specs.Lines.{IsThread}
use Rattle.joint_machine.specs.ManagedReplay.{opening_replay}
use Rattle.joint_machine.specs.PeerReplay.{opening_peer_replay, is_thread}
use Rattle.joint_machine.specs.Components.{Rises}
use Rattle.joint_machine.specs.Sides.{managed_rules, peer_rules, LeadsTo, IsReplayed}
use Rattle.joint_machine.specs.Told.{Noted}
use Rattle.known_laws.specs.Pasts.{line, end_of, Lawful}
use Rattle.joint_machine.specs.HistoryLines.{caller_line}
use Rattle.known_laws.specs.Growing.{Kept, entries_kept, kept_in, AreKnown, AreWhole}
use Rattle.known_laws.specs.PastEntries.{entries}
use Rattle.joint_machine.specs.Histories.{NumberedFrom}

-- each side's list in a past is lawful, and leads to that side's state at the past's end, so that the side is the
-- replay of its entries; and in each line numbers rise
pub record AreListsLawful (h : List Noted) : Type 0 where
  pub managed : LeadsTo managed_rules opening_replay (line 0 h) (end_of h).managed
  pub peer : LeadsTo peer_rules opening_peer_replay (line 1 h) (end_of h).peer
  pub rise : (i : ℕ) → Rises (map (λ e. e.number) (entries (line i h)))
  pub managed_side : IsReplayed managed_rules (entries (line 0 h)) (end_of h).managed
  pub peer_side : IsReplayed peer_rules (entries (line 1 h)) (end_of h).peer

-- so it is of every lawful past
abbrev pub KnownListsAreLawful : Type 0
KnownListsAreLawful = (h : List Noted) → Lawful h → AreListsLawful h

-- the entries that a thread made
abbrev pub made_by : Thread → List Entry → List Entry
made_by t es = filter (λ e. is_thread e.made.caller t) es

-- once both sides' lines are known whole, the whole line of a thread has exactly the entries that this thread made
abbrev pub OwnLineIsMadeByCaller : Type 0
OwnLineIsMadeByCaller = (whole : List Kept) (lines : ℕ → List Kept)
    → AreKnown lines → NumberedFrom 0 (entries_kept whole) → AreWhole whole lines
    → (t : Thread) → IsThread t → lines (caller_line t) ≡ kept_in (caller_line t) whole
    → entries_kept (lines (caller_line t)) ≡ made_by t (entries_kept whole)
