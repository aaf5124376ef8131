-- The phase words as the driver runs them: which comes next, and what a run of several phases has done so far.
use Rattle.std.specs.Prelude.{◌≡◌, ℕ, List, ◌++◌}
use Rattle.joint_machine.specs.declared.names.Phase.{Phase}
use Rattle.joint_machine.specs.declared.names.Phase.TheVariants as at
use Rattle.joint_machine.specs.declared.names.PhaseWord.{PhaseWord}
use Rattle.joint_machine.specs.declared.names.PhaseWord.TheVariants as word
use Rattle.joint_machine.specs.Phases.{phases_left, phases_of}
use Rattle.bridge_cycle.specs.Progress.{GivesUp, Progress, RunsWords, TakesMemory}

-- the next phase's word
abbrev pub next_word : Phase → PhaseWord
next_word at.Idle = word.Snap
next_word at.Snapped = word.Contract
next_word at.Contracted = word.Mirror
next_word at.Mirrored = word.Weaken
next_word at.Weakened = word.Mark
next_word at.Marked = word.Sweep
next_word at.Swept = word.Restore
next_word at.Restored = word.Resolve

-- the phases that are to come until the driver is idle again: where it is, those of the next cycle
abbrev pub to_come : Phase → List PhaseWord
to_come at.Idle = phases_of word.Cycle
to_come p = phases_left p

-- a phase found no memory, which is one that takes some, and the driver is idle
pub record Lacks (old new : Progress) (index : ℕ) (w : PhaseWord) : Type 0 where
  pub takes : TakesMemory w
  pub gives_up : GivesUp w old new index
  pub idle : new.phase ≡ at.Idle

-- so far the driver has run the first of the phases that were to come; the others are to come now
pub record IsPartway (old now : Progress) (index : ℕ) : Type 0 where
  pub run : List PhaseWord
  pub all : to_come old.phase ≡ run ++ to_come now.phase
  pub runs : RunsWords old now index run
