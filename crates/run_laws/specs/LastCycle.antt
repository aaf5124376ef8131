-- A run with one cycle more: the threads run their lines, and once all of them have ended the driver hears of what each
-- has made and runs a whole cycle. So the cycle's entries stand behind all others.
use Rattle.std.specs.Prelude.{◌≡◌, ℕ, ◌+◌, ◌<◌, ◌^◌, List, [], ◌∷◌, ◌++◌, All, Contains, length}
use mathlib.Core.List.{IsPrefix}
use Rattle.joint_machine.specs.declared.names.Thread.{Thread}
use Rattle.joint_machine.specs.declared.names.Thread.TheVariants.{C}
use Rattle.joint_machine.specs.declared.lines.Act.{Act}
use Rattle.joint_machine.specs.declared.events.Entry.{Entry}
use Rattle.joint_machine.specs.Histories.{Finished}
use Rattle.joint_machine.specs.HistoryLines.{caller_line}
use Rattle.joint_machine.specs.Lines.{IsLine, IsThread}
use Rattle.known_laws.specs.Lists.{made_by}
use Rattle.order_table.specs.declared.views.View.{View}
use Rattle.joint_history.specs.Callers.{Pass, own}
use Rattle.joint_history.specs.Desks.{Waiting}
use Rattle.joint_history.specs.Ending.{HasAll, HasOwn, IsFinished, StillWaits}
use Rattle.joint_history.specs.Knowing.{line_known}
use Rattle.joint_history.specs.Operations.{AreAbove}
use Rattle.run_laws.specs.Final.{IsRunInOrder}
use Rattle.run_laws.specs.Threads.{HoldsItsLines, NoneIsLeft}
use Rattle.run_laws.specs.WithCycle.{AreWholeCycle, IsRunThenCycle, cycle_line}

-- a seat has heard of all that a caller made
abbrev pub HasHeardOf : View → Pass → Type 0
HasHeardOf heard p = IsPrefix (own p) (line_known heard (caller_line p.thread))

-- the driver, whose seat has heard of all that the others and it itself have made, made a cycle's entries more
pub record EndsWithCycle (number : ℕ) (before after : Pass) (others : List Pass) : Type 0 where
  pub heard : View
  pub of_others : All (HasHeardOf heard) others
  pub of_own : HasHeardOf heard before
  pub driver : before.thread ≡ C
  pub same : after.thread ≡ C
  pub cycle : List Entry
  pub cycle_is : AreWholeCycle number cycle
  pub own_more : own after ≡ own before ++ cycle
  pub above : AreAbove heard cycle

-- where each caller that was given out has run its thread's lines, nobody else has any, and the driver then made a
-- cycle more, the finished history is that of the script's run with one cycle more
abbrev pub CyclesEndRuns : Type 0
CyclesEndRuns = (script : List (Thread × Act)) (h : Finished) (d : Waiting) (others : List Pass) (before after : Pass)
    → IsFinished h → length h.entries < 2 ^ 64 → ((line : Thread × Act) → Contains script line → IsLine line.0 line.1)
    → HasAll d (others ++ after ∷ []) → All (HasOwn h.entries) (others ++ after ∷ [])
    → ((t : Thread) → IsThread t → StillWaits d t → made_by t h.entries ≡ []) → NoneIsLeft script d
    → All (HoldsItsLines script) others → HoldsItsLines script before
    → EndsWithCycle (length script + 1) before after others → IsRunThenCycle script h

-- all lines of the driver are whole cycles
abbrev pub DrivesCycles : List (Thread × Act) → Type 0
DrivesCycles script = (line : Thread × Act) → Contains script line → line.0 ≡ C → line ≡ cycle_line

-- then a run line after line whose last line is a cycle is the run of the lines before it with one cycle more
abbrev pub CycleLinesEndRuns : Type 0
CycleLinesEndRuns = (script : List (Thread × Act)) (h : Finished) → DrivesCycles script
    → IsRunInOrder (script ++ cycle_line ∷ []) h → IsRunThenCycle script h
