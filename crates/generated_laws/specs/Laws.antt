-- That the runs of a generated script have one tally, in whatever order threads came.
use Rattle.std.specs.Prelude.{◌≡◌, ℕ, ◌+◌, ◌≤◌, List, ◌++◌}
use Rattle.joint_machine.specs.declared.names.Thread.TheVariants.{C}
use Rattle.joint_machine.specs.declared.events.Entry.{Entry}
use Rattle.joint_machine.specs.Histories.{Finished}
use Rattle.joint_machine.specs.LinkedHistories.{IsLinkedBy}
use Rattle.joint_machine.specs.Told.{Noted}
use Rattle.run_summary.specs.Tallies.{tally_of}
use Rattle.script_generator.specs.Generated.{generated}
use Rattle.script_laws.specs.Holding.{Standing, AreLine, HoldsPerThread}
use Rattle.generated_laws.specs.Counts.{generated_tally}
use Rattle.joint_machine.specs.declared.names.Phase.TheVariants as at
use Rattle.joint_machine.specs.declared.names.PhaseWord.TheVariants as word
use Rattle.joint_machine.specs.declared.lines.Act.TheVariants as act

-- the entries of a generated script's lines, thread by thread, and behind them those of one cycle more, which an idle
-- driver begins
pub record IsGeneratedRun (seed size : ℕ) (h : Finished) : Type 0 where
  pub noted : List Noted
  pub linked : IsLinkedBy h noted
  pub before : List Entry
  pub cycle : List Entry
  pub all : h.entries ≡ before ++ cycle
  pub lines : HoldsPerThread (generated seed size) before
  pub standing : Standing
  pub idle : standing.phase ≡ at.Idle
  pub number : ℕ
  pub line : AreLine standing number (C, act.PhaseLine word.Cycle) cycle

-- so it is, in whatever order threads came
abbrev pub GeneratedRunsAreAlike : Type 0
GeneratedRunsAreAlike = (seed size : ℕ) (h : Finished) → size ≤ 2800
    → IsGeneratedRun seed size h → tally_of h.entries ≡ generated_tally seed size
