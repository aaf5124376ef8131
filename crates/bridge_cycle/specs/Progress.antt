-- What contracts see of the driver, and what its calls do: they make entries, which are the events of phases.
use Rattle.std.specs.Prelude.{◌≡◌, ℕ, List, [], ◌∷◌, ◌++◌, Option, Some, None}
use Rattle.joint_machine.specs.declared.names.Cycle.{Cycle}
use Rattle.joint_machine.specs.declared.names.Phase.{Phase}
use Rattle.joint_machine.specs.declared.names.Phase.TheVariants as at
use Rattle.joint_machine.specs.declared.names.PhaseWord.{PhaseWord}
use Rattle.joint_machine.specs.declared.names.PhaseWord.TheVariants as word
use Rattle.joint_machine.specs.declared.names.Thread.TheVariants.{C}
use Rattle.joint_machine.specs.declared.lines.Act.{Act}
use Rattle.joint_machine.specs.declared.lines.Act.TheVariants as act
use Rattle.joint_machine.specs.declared.events.Entry.{Entry}
use Rattle.joint_machine.specs.declared.events.Op.{Op}
use Rattle.joint_machine.specs.declared.events.Op.TheVariants as op
use Rattle.joint_machine.specs.declared.events.Reply.{Reply}
use Rattle.joint_machine.specs.declared.events.Reply.TheVariants as says
use Rattle.joint_machine.specs.Phases.{next_phase, phases_of, ArePhases, AreRefusal, candidates_after}
use Rattle.order_table.specs.declared.views.View.{View}
use Rattle.joint_history.specs.Callers.{Pass, last_index, no_reads, own}
use Rattle.joint_history.specs.Operations.{MakesAll}

-- what the driver knows, the phase that it has come to, the cycle that it opened last, or 0, and how many candidates
-- that one has
pub record Progress : Type 0 where
  pub view : View
  pub phase : Phase
  pub cycle : Cycle
  pub candidates : ℕ

-- the driver's pass
abbrev pub pass_of : Progress → Pass
pass_of d = record { thread = C; view = d.view; reads = no_reads }

-- the line of the driver's last entry
abbrev pub line_of : Progress → ℕ
line_of d = last_index (own (pass_of d))

-- each entry is the driver's, on that line
abbrev pub AreDriversOnLine : ℕ → List Entry → Type 0
AreDriversOnLine index [] = Unit {0}
AreDriversOnLine index (e ∷ es) = (e.made.caller ≡ C) × (e.made.index ≡ index) × AreDriversOnLine index es

-- the cycle that was opened last, which a snapshot names
abbrev pub opened_by : Cycle → Op → Cycle
opened_by k (op.Snap j) = j
opened_by k o = k

abbrev pub cycle_after : Cycle → List Entry → Cycle
cycle_after k [] = k
cycle_after k (e ∷ es) = cycle_after (opened_by k e.made.op) es

-- the reply of the last entry; `ok` where there is none
abbrev pub last_reply : List Entry → Reply
last_reply [] = says.Ok
last_reply (e ∷ []) = e.made.reply
last_reply (e ∷ f ∷ es) = last_reply (f ∷ es)

-- the driver made these entries, on that line: they are its last ones, with numbers above all that it knew, and it
-- knows all that it knew
pub record Enters (old new : Progress) (index : ℕ) (entries : List Entry) : Type 0 where
  pub made : MakesAll C old.view new.view entries
  pub places : AreDriversOnLine index entries
  pub cycle : new.cycle ≡ cycle_after old.cycle entries
  pub candidates : new.candidates ≡ candidates_after old.candidates entries

-- these phase words lead from one phase to another
abbrev pub LeadTo : Phase → List PhaseWord → Phase → Type 0
LeadTo from [] to = to ≡ from
LeadTo from (w ∷ ws) to = (next : Phase) × (next_phase from w ≡ Some next) × LeadTo next ws to

-- the driver ran these phases, one after another: the entries are their events
pub record RunsPhases (old new : Progress) (index : ℕ) (ws : List PhaseWord) (entries : List Entry) : Type 0 where
  pub enters : Enters old new index entries
  pub events : ArePhases old.candidates ws entries
  pub leads : LeadTo old.phase ws new.phase

abbrev pub RunsWords : Progress → Progress → ℕ → List PhaseWord → Type 0
RunsWords old new index ws = (entries : List Entry) × RunsPhases old new index ws entries

-- the phases that take memory; from `weaken` on there is none
abbrev pub TakesMemory : PhaseWord → Type 0
TakesMemory word.Snap = Unit {0}
TakesMemory word.Contract = Unit {0}
TakesMemory word.Mirror = Unit {0}
TakesMemory w = ⊥

-- the driver abandoned its open cycle by one entry, and is idle
pub record AbandonsCycle (old new : Progress) (index : ℕ) : Type 0 where
  pub entry : Entry
  pub enters : Enters old new index (entry ∷ [])
  pub abandons : entry.made.op ≡ op.Abandon record { 0 = old.cycle.0 }
  pub replies : entry.made.reply ≡ says.Ok
  pub idle : new.phase ≡ at.Idle

-- what a phase makes that found no memory: nothing where it is the snapshot; else the open cycle is abandoned
abbrev pub GivesUp : PhaseWord → Progress → Progress → ℕ → Type 0
GivesUp word.Snap old new index = RunsWords old new index []
GivesUp w old new index = AbandonsCycle old new index

-- the driver ran the first of these phases; the next one found no memory, and so the driver is idle
pub record StopsForMemory (old new : Progress) (index : ℕ) (ws : List PhaseWord) : Type 0 where
  pub run : List PhaseWord
  pub failed : PhaseWord
  pub left : List PhaseWord
  pub all : ws ≡ run ++ failed ∷ left
  pub takes : TakesMemory failed
  pub before : Progress
  pub runs : RunsWords old before index run
  pub gives_up : GivesUp failed before new index
  pub idle : new.phase ≡ at.Idle

-- the driver made one entry that leaves it in its phase, with the candidates that it had
pub record MakesOne (old new : Progress) (index : ℕ) (entries : List Entry) : Type 0 where
  pub enters : Enters old new index entries
  pub phase : new.phase ≡ old.phase
  pub same_candidates : new.candidates ≡ old.candidates

-- the entry of a `finalise` line
pub record AreNotices (count : ℕ) (entries : List Entry) : Type 0 where
  pub entry : Entry
  pub all : entries ≡ entry ∷ []
  pub takes : entry.made.op ≡ op.Line (act.Finalise count)

-- the entries of a line with a phase word: the events of its phases, or where it is refused its refusal
abbrev pub RunsWord : Progress → Progress → ℕ → PhaseWord → Option Phase → List Entry → Type 0
RunsWord old new index w None entries = MakesOne old new index entries × AreRefusal old.phase w entries
RunsWord old new index w (Some next) entries = RunsPhases old new index (phases_of w) entries

-- the entries of a line of the driver
abbrev pub RunsAct : Progress → Progress → ℕ → Act → List Entry → Type 0
RunsAct old new index (act.PhaseLine w) entries = RunsWord old new index w (next_phase old.phase w) entries
RunsAct old new index (act.Finalise n) entries = MakesOne old new index entries × AreNotices n entries
RunsAct old new index a entries = ⊥

-- the driver ran a line, which answers the reply of its last entry
pub record RunsLine (old new : Progress) (index : ℕ) (a : Act) (reply : Reply) : Type 0 where
  pub entries : List Entry
  pub runs : RunsAct old new index a entries
  pub last : reply ≡ last_reply entries

-- a line found no memory: it made nothing, or its first phases and, where it had opened a cycle, the entry that
-- abandons it
abbrev pub BreaksWord : Progress → Progress → ℕ → PhaseWord → Option Phase → Type 0
BreaksWord old new index w None = RunsWords old new index []
BreaksWord old new index w (Some next) = StopsForMemory old new index (phases_of w)

abbrev pub BreaksLine : Progress → Progress → ℕ → Act → Type 0
BreaksLine old new index (act.PhaseLine w) = BreaksWord old new index w (next_phase old.phase w)
BreaksLine old new index a = RunsWords old new index []

-- the driver ran phases, the last entry of which replied this
pub record EndsWithReply (old new : Progress) (index : ℕ) (ws : List PhaseWord) (reply : Reply) : Type 0 where
  pub entries : List Entry
  pub runs : RunsPhases old new index ws entries
  pub last : reply ≡ last_reply entries
