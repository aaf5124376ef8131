-- A caller at the start of its thread, and at its end. (This project's own.)
use Rattle.std.specs.Prelude.{◌≡◌, IfOk, Result}
use Rattle.joint_machine.specs.Lines.{IsPeerThread, IsThread}
use Rattle.joint_history.specs.Callers.{KnowsNothing, Pass}
use Rattle.joint_history.specs.Ending.{HasIdleDriver}
use Rattle.joint_history.specs.Operations.{IsOwnThread}

-- a caller of a managed or a peer thread, which has made nothing yet
abbrev pub IsStarting : Pass → Type 0
IsStarting p = IsOwnThread p.thread × KnowsNothing p.view

-- a caller of a peer thread, which has made nothing yet
abbrev pub IsStartingPeer : Pass → Type 0
IsStartingPeer p = IsPeerThread p.thread × KnowsNothing p.view

-- a caller of any thread, which has made nothing yet
abbrev pub IsWaiting : Pass → Type 0
IsWaiting p = IsThread p.thread × KnowsNothing p.view

-- what a thread ends with, unless it found no memory: its caller, and the driver's is idle
abbrev pub EndsIdle : {E : Type 0} → Pass → Result Pass E → Type 0
EndsIdle p result = IfOk result (λ q. (q.thread ≡ p.thread) × HasIdleDriver q)
