-- Where a run stands: line after line before its first line, behind a line, and behind its last; and by threads before
-- they begin. (This project's own.)
use Rattle.std.specs.Prelude.{◌≡◌, ℕ, ◌≤◌, All, List, Some, slice_get}
use Rattle.joint_machine.specs.declared.names.Thread.{Thread}
use Rattle.joint_machine.specs.declared.names.Phase.TheVariants.{Idle}
use Rattle.joint_machine.specs.declared.lines.Act.{Act}
use Rattle.joint_machine.specs.Lines.{IsThread}
use Rattle.joint_history.specs.Callers.{KnowsNothing, Pass, own}
use Rattle.joint_history.specs.Desks.{Waiting}
use Rattle.joint_history.specs.Ending.{BeginsView, HasAll}
use Rattle.bridge_cycle.specs.Progress.{Progress, line_of, pass_of}
use Rattle.run_laws.specs.Serial.{AreOthers}
use Rattle.run_laws.specs.Threads.{NoneIsLeft}
use Rattle.graph_listing.specs.Listing.{Listed}
use Rattle.script_runs.specs.Listed.{AreAllListed}
use Rattle.script_runs.specs.Running.{AreUpTo, AreWorkers, DriverIsFirst, DrivesLeft, HasComeThrough, IsNewDriver}
use Rattle.script_runs.specs.Running.{RunsOn, last_after}

-- the driver and the callers of all other threads, none of which has made anything
pub record AreNewCallers (d : Progress) (others : List Pass) : Type 0 where
  pub driver : IsNewDriver d
  pub others_are : AreOthers others
  pub nothing : (i : ℕ) (p : Pass) → slice_get others i ≡ Some p → KnowsNothing p.view

-- one of the others ran a line: none of them has come past it, and the driver has made nothing and knows all that it
-- knew
pub record RunsOther (number : ℕ) (t : Thread) (a : Act)
    (old new : Progress) (others others' : List Pass) : Type 0 where
  pub others_are : AreOthers others'
  pub up_to : AreUpTo number others'
  pub own_stay : own (pass_of new) ≡ own (pass_of old)
  pub knew : BeginsView old.view new.view
  pub runs : RunsOn number t a old new others others'

-- a line was run, of whatever thread: nobody has come past it, and the number of the driver's last line is this now
pub record ComesTo (number last now : ℕ) (line : Thread × Act)
    (old new : Progress) (others others' : List Pass) : Type 0 where
  pub others_are : AreOthers others'
  pub up_to : AreUpTo number others'
  pub driven : line_of new ≤ now
  pub within : now ≤ number
  pub last_is : now ≡ last_after last number line.0
  pub runs : RunsOn number line.0 line.1 old new others others'

-- all lines were run, and the phases that the driver's have left
pub record HasRunAll (script : List (Thread × Act)) (d : Progress) (others : List Pass) : Type 0 where
  pub last : ℕ
  pub before : Progress
  pub come : HasComeThrough script last before others
  pub left : DrivesLeft before d last
  pub idle : d.phase ≡ Idle

-- and the cycles are those of all of the driver's snapshots
pub record HasListedAll (script : List (Thread × Act))
    (d : Progress) (others : List Pass) (cycles : List Listed) : Type 0 where
  pub ran : HasRunAll script d others
  pub listed : AreAllListed ran.before cycles

-- the callers of a run by threads: each thread's caller still waits at the desk or is one of these, and whoever waits
-- has no line; they know nothing, and stand in the order of their places
pub record AreCalled (script : List (Thread × Act)) (d : Waiting) (callers : List Pass) : Type 0 where
  pub all : HasAll d callers
  pub none : NoneIsLeft script d
  pub new : All (λ p. IsThread p.thread × KnowsNothing p.view) callers
  pub driver : DriverIsFirst callers
  pub workers : AreWorkers script callers
