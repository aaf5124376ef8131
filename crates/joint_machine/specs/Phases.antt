-- The driver's phase as a function of the phase words before it, and the events of each phase, in a history without an
-- abandoned cycle. (The life of a bridge cycle is that of SGen's bridge header; the words are this project's own.)
-- Believed: the clauses of the program's top call rest on all that stands here.
use Rattle.std.specs.Prelude.{◌≡◌, ℕ, ◌⊎◌, List, [], ◌∷◌, ◌++◌, length, Option, Some, None}
use Rattle.joint_machine.specs.declared.names.Phase.{Phase}
use Rattle.joint_machine.specs.declared.names.Phase.TheVariants as at
use Rattle.joint_machine.specs.declared.names.PhaseWord.{PhaseWord}
use Rattle.joint_machine.specs.declared.names.PhaseWord.TheVariants as word
use Rattle.joint_machine.specs.declared.names.Cycle.{Cycle}
use Rattle.joint_machine.specs.declared.names.Span.{Span}
use Rattle.joint_machine.specs.declared.events.Op.{Op}
use Rattle.joint_machine.specs.declared.events.Op.TheVariants as op
use Rattle.joint_machine.specs.declared.events.Reply.{Reply}
use Rattle.joint_machine.specs.declared.events.Reply.TheVariants as says
use Rattle.joint_machine.specs.declared.events.Entry.{Entry}

-- the phase after a word, or none where the word is refused. Where there is no candidate a `weaken` leads to its phase
-- without an event.
abbrev pub next_phase : Phase → PhaseWord → Option Phase
next_phase at.Idle word.Cycle = Some at.Idle
next_phase at.Idle word.Snap = Some at.Snapped
next_phase at.Snapped word.Contract = Some at.Contracted
next_phase at.Contracted word.Mirror = Some at.Mirrored
next_phase at.Mirrored word.Weaken = Some at.Weakened
next_phase at.Weakened word.Mark = Some at.Marked
next_phase at.Marked word.Sweep = Some at.Swept
next_phase at.Swept word.Restore = Some at.Restored
next_phase at.Restored word.Resolve = Some at.Idle
next_phase phase w = None

-- the phases that are left until the driver is idle
abbrev pub phases_left : Phase → List PhaseWord
phases_left at.Idle = []
phases_left at.Snapped = word.Contract ∷ word.Mirror ∷ word.Weaken
    ∷ word.Mark ∷ word.Sweep ∷ word.Restore ∷ word.Resolve ∷ []
phases_left at.Contracted = word.Mirror ∷ word.Weaken ∷ word.Mark ∷ word.Sweep ∷ word.Restore ∷ word.Resolve ∷ []
phases_left at.Mirrored = word.Weaken ∷ word.Mark ∷ word.Sweep ∷ word.Restore ∷ word.Resolve ∷ []
phases_left at.Weakened = word.Mark ∷ word.Sweep ∷ word.Restore ∷ word.Resolve ∷ []
phases_left at.Marked = word.Sweep ∷ word.Restore ∷ word.Resolve ∷ []
phases_left at.Swept = word.Restore ∷ word.Resolve ∷ []
phases_left at.Restored = word.Resolve ∷ []

-- the phases that a word asks for: `cycle` for all eight
abbrev pub phases_of : PhaseWord → List PhaseWord
phases_of word.Cycle = word.Snap ∷ phases_left at.Snapped
phases_of w = w ∷ []

-- the event that a phase has; the clear of `restore`, and the sweep that ends a peer thread's marking in `mark`, come
-- beside it
abbrev pub IsEventOf : PhaseWord → Op → Type 0
IsEventOf word.Snap (op.Snap k) = Unit {0}
IsEventOf word.Contract (op.Contract k) = Unit {0}
IsEventOf word.Mirror (op.Mirror k) = Unit {0}
IsEventOf word.Weaken (op.Weaken h) = Unit {0}
IsEventOf word.Mark op.Begin = Unit {0}
IsEventOf word.Sweep op.Sweep = Unit {0}
IsEventOf word.Restore (op.Restore h) = Unit {0}
IsEventOf word.Resolve (op.Resolve k) = Unit {0}
IsEventOf w o = ⊥

abbrev pub IsClear : Op → Type 0
IsClear (op.Clear k) = Unit {0}
IsClear o = ⊥

-- each entry is an event of the phase
abbrev pub AreEach : PhaseWord → List Entry → Type 0
AreEach w [] = Unit {0}
AreEach w (e ∷ es) = IsEventOf w e.made.op × AreEach w es

-- so many entries, each an event of the phase
pub record AreTimes (w : PhaseWord) (n : ℕ) (entries : List Entry) : Type 0 where
  pub each : AreEach w entries
  pub count : length entries ≡ n

-- the events of `mark`: a begin; before it, where a peer thread's marking is open, a sweep that ends that marking
abbrev pub AreMarkAfterSweep : List Entry → Type 0
AreMarkAfterSweep es = (end : Entry) × (begin : Entry) × (j : ℕ) × (s : Span) × (es ≡ end ∷ begin ∷ [])
    × (end.made.op ≡ op.Sweep) × (end.made.reply ≡ says.Swept record { 0 = j } s) × IsEventOf word.Mark begin.made.op

-- the events of `restore`: a restore for each candidate, and a clear
abbrev pub AreRestores : ℕ → List Entry → Type 0
AreRestores n entries = (restores : List Entry) × (clear : Entry) × (entries ≡ restores ++ clear ∷ [])
    × AreTimes word.Restore n restores × IsClear clear.made.op

-- the events of one phase, in a cycle with so many candidates
abbrev pub ArePhase : ℕ → PhaseWord → List Entry → Type 0
ArePhase n word.Weaken entries = AreTimes word.Weaken n entries
ArePhase n word.Mark entries = AreTimes word.Mark 1 entries ⊎ AreMarkAfterSweep entries
ArePhase n word.Restore entries = AreRestores n entries
ArePhase n w entries = AreTimes w 1 entries

-- the number of candidates, which the reply of a snap tells
abbrev pub told_by : ℕ → Reply → ℕ
told_by n (says.Snapped count s) = count
told_by n reply = n

abbrev pub candidates_after : ℕ → List Entry → ℕ
candidates_after n [] = n
candidates_after n (e ∷ es) = candidates_after (told_by n e.made.reply) es

-- the events of phases, one after another
abbrev pub ArePhases : ℕ → List PhaseWord → List Entry → Type 0
ArePhases n [] entries = entries ≡ []
ArePhases n (w ∷ ws) entries = (own : List Entry) × (rest : List Entry)
    × (entries ≡ own ++ rest) × ArePhase n w own × ArePhases (candidates_after n own) ws rest

-- the reply of a refusal: that of `cycle` and `snap` names the open cycle, each other the driver's phase
abbrev pub NamesPhase : PhaseWord → Phase → Reply → Type 0
NamesPhase word.Cycle phase reply = (k : Cycle) × (reply ≡ says.CycleOpen k)
NamesPhase word.Snap phase reply = (k : Cycle) × (reply ≡ says.CycleOpen k)
NamesPhase w phase reply = reply ≡ says.At phase

-- the events of a refused word: its one refusal
pub record AreRefusal (phase : Phase) (w : PhaseWord) (entries : List Entry) : Type 0 where
  pub entry : Entry
  pub all : entries ≡ entry ∷ []
  pub refuses : entry.made.op ≡ op.Refused w
  pub names : NamesPhase w phase entry.made.reply
