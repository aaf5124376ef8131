-- A run with one cycle more at its end: its lines, and behind all else the entries of a whole cycle.
-- Believed: the clauses of the program's top call rest on all that stands here.
use Rattle.std.specs.Prelude.{◌≡◌, ℕ, ◌+◌, List, ◌++◌, length}
use Rattle.joint_machine.specs.declared.names.Thread.{Thread}
use Rattle.joint_machine.specs.declared.names.Thread.TheVariants.{C}
use Rattle.joint_machine.specs.declared.lines.Act.{Act}
use Rattle.joint_machine.specs.declared.events.Entry.{Entry}
use Rattle.joint_machine.specs.Histories.{Finished}
use Rattle.joint_machine.specs.Told.{Noted}
use Rattle.script_laws.specs.Holding.{Standing, AreLine, HoldsPerThread}
use Rattle.run_laws.specs.Final.{IsBridgeRun}
use Rattle.joint_machine.specs.declared.names.Phase.TheVariants as at
use Rattle.joint_machine.specs.declared.names.PhaseWord.TheVariants as word
use Rattle.joint_machine.specs.declared.lines.Act.TheVariants as act

-- the line of a whole cycle
abbrev pub cycle_line : Thread × Act
cycle_line = (C, act.PhaseLine word.Cycle)

-- the entries are those of a whole cycle on that line, begun by an idle driver
pub record AreWholeCycle (number : ℕ) (entries : List Entry) : Type 0 where
  pub standing : Standing
  pub idle : standing.phase ≡ at.Idle
  pub line : AreLine standing number cycle_line entries

-- the entries are those of a script's lines, thread by thread, and behind them all those of a cycle on a line of its
-- own
pub record HoldsThenCycle (script : List (Thread × Act)) (entries : List Entry) : Type 0 where
  pub before : List Entry
  pub cycle : List Entry
  pub all : entries ≡ before ++ cycle
  pub lines : HoldsPerThread script before
  pub cycle_is : AreWholeCycle (length script + 1) cycle

-- the history of a script's run with one cycle more at its end
pub record IsRunThenCycle (script : List (Thread × Act)) (h : Finished) : Type 0 where
  pub noted : List Noted
  pub kept : IsBridgeRun h noted
  pub lines : HoldsThenCycle script h.entries
