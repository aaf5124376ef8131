-- What a history is found to be: legal, or which entry is the first that isn't in order and which test fails first, or
-- unfinished.
-- Believed: the clauses of the program's top call rest on all that stands here.
use Rattle.std.specs.Prelude.{◌≡◌, ℕ, List, take, Some, slice_get}
use Rattle.joint_machine.specs.declared.events.Entry.{Entry}
use Rattle.joint_machine.specs.declared.events.Reply.{Reply}
use Rattle.joint_machine.specs.Histories.{Finished}
use Rattle.joint_machine.specs.Lines.{is_read}
use Rattle.joint_machine.specs.Linked.{IsWhole}
use Rattle.joint_machine.specs.LinkedHistories.{IsLinkedBy}
use Rattle.joint_machine.specs.Told.{Told, Noted}
use Rattle.joint_laws.specs.Readings.{HasReadingRun}
use Rattle.known_laws.specs.PastEntries.{entries}
use Rattle.check_laws.specs.declared.findings.Finding.{Finding}
use Rattle.check_laws.specs.declared.findings.Why.{Why}
use Rattle.check_laws.specs.Order.{IsTurn, CitesSo}
use Rattle.check_laws.specs.Behind.{in_turn, state_of, WaitsForSnap, RepliesBehind, AllInOrder}
use Rattle.check_laws.specs.declared.findings.Finding.TheVariants as finding
use Rattle.check_laws.specs.declared.findings.Why.TheVariants as why

-- a past has so many of the history's first entries, each in order
pub record IsInOrderUpTo (h : Finished) (i : ℕ) (past : List Noted) : Type 0 where
  pub same : entries (in_turn past) ≡ take i h.entries
  pub order : AllInOrder h past

-- a past has all of them
pub record IsAllInOrder (h : Finished) (past : List Noted) : Type 0 where
  pub same : entries (in_turn past) ≡ h.entries
  pub order : AllInOrder h past

-- nothing has to follow: no operation and no phase is half done, and no `pending` waits for its snap
pub record NothingFollows (past : List Noted) : Type 0 where
  pub whole : IsWhole (state_of past)
  pub snapped : (k : ℕ) → WaitsForSnap past k → ⊥

-- the first test of the entry that fails behind a past; no data make its reply right
abbrev pub FailsBy : Why → Finished → List Noted → Entry → Type 0
FailsBy why.Caller h past e = IsTurn (state_of past) e.made → ⊥
FailsBy why.Cite h past e = IsTurn (state_of past) e.made × (CitesSo (state_of past) e.made → ⊥)
FailsBy why.Reply h past e = IsTurn (state_of past) e.made × CitesSo (state_of past) e.made
    × ((told : Told) → RepliesBehind (is_read e.made.op) h past (record { entry = e; told = told }) → ⊥)

-- what a history was found to be
abbrev pub IsFinding : Finished → Finding → Type 0
IsFinding h finding.Legal = (past : List Noted) × IsAllInOrder h past × NothingFollows past
IsFinding h (finding.Illegal i w) = (past : List Noted) × IsInOrderUpTo h i past
    × ((e : Entry) × (slice_get h.entries i ≡ Some e) × FailsBy w h past e)
IsFinding h finding.Unfinished = (past : List Noted) × IsAllInOrder h past × (NothingFollows past → ⊥)

-- some notes link the history, and its joint projection by them is a run, sound and complete
pub record HasSoundAndCompleteRun (h : Finished) : Type 0 where
  pub noted : List Noted
  pub linked : IsLinkedBy h noted
  pub runs : HasReadingRun noted
