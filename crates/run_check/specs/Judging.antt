-- What the judgement of an entry promises: where it is found in order, a past that is longer by it, and else which test
-- fails first.
use Rattle.std.specs.Prelude.{◌≡◌, ℕ, ◌<◌, ◌^◌, Bool, true, false, List, ◌∷◌, length, Option, Some, None, slice_get}
use Rattle.joint_machine.specs.declared.names.Phase.{Phase}
use Rattle.joint_machine.specs.declared.lines.Act.TheVariants as act
use Rattle.joint_machine.specs.declared.events.Entry.{Entry}
use Rattle.joint_machine.specs.declared.events.Made.{Made}
use Rattle.joint_machine.specs.declared.events.Op.{Op}
use Rattle.joint_machine.specs.declared.events.Op.TheVariants as op
use Rattle.joint_machine.specs.declared.names.Thread.{Thread}
use Rattle.joint_machine.specs.declared.events.Reply.{Reply}
use Rattle.joint_machine.specs.declared.events.Reply.TheVariants as says
use Rattle.joint_machine.specs.Draws.{numbered}
use Rattle.joint_machine.specs.Histories.{Finished, NumberedFrom}
use Rattle.joint_machine.specs.Lines.{is_read}
use Rattle.joint_machine.specs.Managed.{cell_read}
use Rattle.joint_machine.specs.Readers.{MayBeUnset}
use Rattle.joint_machine.specs.Run.{thread_number}
use Rattle.joint_machine.specs.Told.{Told, Noted, nothing}
use Rattle.known_laws.specs.PastEntries.{entries}
use Rattle.check_laws.specs.declared.findings.Finding.{Finding}
use Rattle.check_laws.specs.declared.findings.Finding.TheVariants as finding
use Rattle.check_laws.specs.declared.findings.Why.{Why}
use Rattle.check_laws.specs.Behind.{in_turn, state_of, AllInOrder, GivesSnap, IsInOrderBehind, MayBePendingBehind}
use Rattle.check_laws.specs.Behind.{RepliesBehind}
use Rattle.check_laws.specs.Findings.{FailsBy, IsFinding, NothingFollows}
use Rattle.check_laws.specs.Order.{IsTurn, CitesSo}
use Rattle.caller_turns.specs.Shapes.{TellsPhase}
use Rattle.run_check.specs.declared.replays.Replay.{Replay}
use Rattle.run_check.specs.Follows.{CallersFollow, Follows, KeepsRest, SidesFollow}

-- the next entry behind a past, with what is told of it
abbrev pub next_noted : List Noted → Made → Told → Noted
next_noted past m told = record { entry = numbered (length past) m; told = told }

-- a past in order, which is short of the most that are judged
pub record IsSoFar (h : Finished) (past : List Noted) : Type 0 where
  pub numbers : NumberedFrom 0 (entries (in_turn past))
  pub order : AllInOrder h past
  pub few : length past < 2 ^ 62

-- behind such a past the first two tests of the entry passed
pub record IsNext (h : Finished) (past : List Noted) (m : Made) : Type 0 where
  pub so_far : IsSoFar h past
  pub turn : IsTurn (state_of past) m
  pub cites : CitesSo (state_of past) m

-- and the replay follows that past; a managed entry gives the snap that a read waits for
pub record MayReply (h : Finished) (past : List Noted) (r : Replay) (m : Made) : Type 0 where
  pub next : IsNext h past m
  pub sides : SidesFollow past r
  pub callers : CallersFollow past r
  pub snap : GivesSnap past (next_noted past m nothing)

-- there is such a past
abbrev pub IsReady : Finished → Replay → Made → Type 0
IsReady h r m = (past : List Noted) × MayReply h past r m

-- the entry answers as it may, with that told of it: the past is longer by it
pub record Replied (h : Finished) (past : List Noted) (m : Made) (old new : Replay) (told : Told) : Type 0 where
  pub replies : RepliesBehind (is_read m.op) h past (next_noted past m told)
  pub sides : SidesFollow (next_noted past m told ∷ past) new
  pub rest : KeepsRest past m old new

-- it doesn't, whatever is told of it
abbrev pub MayNotReply : Finished → List Noted → Made → Type 0
MayNotReply h past m = (told : Told) → RepliesBehind (is_read m.op) h past (next_noted past m told) → ⊥

-- the answer of an entry's call is right
abbrev pub AnswersRightly : Finished → Made → Replay → Replay → Bool → Type 0
AnswersRightly h m old new true = (past : List Noted)
    → MayReply h past old m → (told : Told) × Replied h past m old new told
AnswersRightly h m old new false = (past : List Noted) → MayReply h past old m → MayNotReply h past m

-- so is one that names the phase of a refusal
abbrev pub TellsRightly : Finished → Made → Replay → Replay → Option Phase → Type 0
TellsRightly h m old new (Some phase) = (past : List Noted) → MayReply h past old m
    → (told : Told) × Replied h past m old new told × TellsPhase m.op told phase
TellsRightly h m old new None = (past : List Noted) → MayReply h past old m → MayNotReply h past m

-- the event is one that the managed side's plain step makes, or the peer side's
abbrev pub IsStepped : Op → Type 0
IsStepped (op.Line (act.Weak k v)) = ⊥
IsStepped (op.Line (act.Take v)) = ⊥
IsStepped (op.Snap k) = ⊥
IsStepped (op.Contract k) = ⊥
IsStepped (op.Resolve k) = ⊥
IsStepped (op.Abandon k) = ⊥
IsStepped (op.Refused w) = ⊥
IsStepped _ = Unit {0}

abbrev pub IsPeerStepped : Op → Type 0
IsPeerStepped (op.Line (act.Slice n)) = ⊥
IsPeerStepped (op.Mirror k) = ⊥
IsPeerStepped (op.Weaken h) = ⊥
IsPeerStepped op.Begin = ⊥
IsPeerStepped op.Sweep = ⊥
IsPeerStepped (op.Restore h) = ⊥
IsPeerStepped (op.Clear k) = ⊥
IsPeerStepped _ = Unit {0}

-- a past in order, which a replay follows
pub record IsBehind (h : Finished) (past : List Noted) (r : Replay) : Type 0 where
  pub so_far : IsSoFar h past
  pub follows : Follows past r

abbrev pub HasPast : Replay → Type 0
HasPast r = (h : Finished) × (past : List Noted) × IsBehind h past r

-- what a read of a cell by a thread with an empty pin may answer behind it
abbrev pub IsReplyUnpinned : List Noted → Thread → ℕ → Reply → Type 0
IsReplyUnpinned past t k (says.Pending c) = MayBePendingBehind past (state_of past).managed.managed (length past) t c.0
IsReplyUnpinned past t k says.Unset = MayBeUnset (in_turn past) (state_of past).managed.managed.cells (length past) t k
IsReplyUnpinned past t k reply = reply
    ≡ (cell_read (state_of past).managed.managed (thread_number t) k (state_of past).managed.managed.cycle).reply

-- the history's entry behind a past that a replay follows
pub record IsJudged (h : Finished) (past : List Noted) (r : Replay) (e : Entry) : Type 0 where
  pub so_far : IsSoFar h past
  pub follows : Follows past r
  pub number : e.number ≡ length past

-- it is in order, and the replay follows the longer past; or a test fails
pub record GoesOn (h : Finished) (past : List Noted) (e : Entry) (new : Replay) : Type 0 where
  pub told : Told
  pub order : IsInOrderBehind h past (record { entry = e; told = told })
  pub follows : Follows (record { entry = e; told = told } ∷ past) new

abbrev pub JudgesRightly : Finished → Entry → Replay → Replay → Option Why → Type 0
JudgesRightly h e old new None = (past : List Noted) → IsJudged h past old e → GoesOn h past e new
JudgesRightly h e old new (Some why) = (past : List Noted) → IsJudged h past old e → FailsBy why h past e

-- a past in order, of so many entries, which a replay follows
pub record IsWalked (h : Finished) (past : List Noted) (r : Replay) (n : ℕ) : Type 0 where
  pub numbers : NumberedFrom 0 (entries (in_turn past))
  pub order : AllInOrder h past
  pub follows : Follows past r
  pub place : length past ≡ n

-- the entry that comes with a number is in order, or a test fails
abbrev pub GoesOnFrom : Finished → Entry → Replay → Replay → ℕ → Option Why → Type 0
GoesOnFrom h e old new n None = (e.number ≡ n) × (n < 2 ^ 62)
    × ((past : List Noted) → IsWalked h past old n → GoesOn h past e new)
GoesOnFrom h e old new n (Some why) = (past : List Noted) → IsWalked h past old n → FailsBy why h past e

-- behind a past with all entries
abbrev pub IsFoundAtEnd : List Noted → Finding → Type 0
IsFoundAtEnd past finding.Legal = NothingFollows past
IsFoundAtEnd past (finding.Illegal n why) = ⊥
IsFoundAtEnd past finding.Unfinished = NothingFollows past → ⊥

-- a replay follows all entries of the history, each in order; or something else is found than that it is legal
pub record IsThrough (h : Finished) (r : Replay) : Type 0 where
  pub past : List Noted
  pub walked : IsWalked h past r (length past)
  pub whole : h.entries ≡ entries (in_turn past)

abbrev pub FindsSoFar : Finished → Replay → Option Finding → Type 0
FindsSoFar h r None = IsThrough h r
FindsSoFar h r (Some f) = IsFinding h f × (f ≡ finding.Legal → ⊥)
