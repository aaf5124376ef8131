-- That a linked history which holds a script's lines is the history of its run.
use Rattle.std.specs.Prelude.{◌≡◌, ◌<◌, ◌^◌, List, length}
use Rattle.joint_machine.specs.declared.names.Thread.{Thread}
use Rattle.joint_machine.specs.declared.lines.Act.{Act}
use Rattle.joint_machine.specs.Histories.{Finished}
use Rattle.joint_history.specs.Ending.{IsFinished}
use Rattle.script_laws.specs.Holding.{HoldsPerThread}
use Rattle.run_laws.specs.Serial.{HoldsExactly}
use Rattle.run_laws.specs.Waits.{WaitsEnd}
use Rattle.run_laws.specs.Final.{IsRunByThreads, IsRunInOrder}

-- a linked history with all that was queued, which has fewer than 2^64 entries and holds a script's lines in order with
-- exact reads, is the history of its run
abbrev pub HeldInOrderIsRun : Type 0
HeldInOrderIsRun = (script : List (Thread × Act)) (h : Finished) → IsFinished h
    → length h.entries < 2 ^ 64 → HoldsExactly script h.entries → IsRunInOrder script h

-- and so it is thread by thread
abbrev pub HeldByThreadsIsRun : Type 0
HeldByThreadsIsRun = (script : List (Thread × Act)) (h : Finished) → IsFinished h
    → length h.entries < 2 ^ 64 → HoldsPerThread script h.entries → WaitsEnd h.entries → IsRunByThreads script h

-- a script has one run in order, so what is written of it is a function of the script
abbrev pub RunsInOrderAreOne : Type 0
RunsInOrderAreOne = (script : List (Thread × Act)) (g h : Finished) → IsRunInOrder script g → IsRunInOrder script h → g ≡ h
