-- The callers of a race: before their threads begin, while they go on, and after they have ended. All their entries
-- stand on line 1. (This project's own.)
use Rattle.std.specs.Prelude.{◌≡◌, ◌≤◌, IfOk, Result}
use Rattle.joint_machine.specs.Lines.{IsManagedThread, IsThread}
use Rattle.joint_history.specs.Callers.{Pass, last_index, own}
use Rattle.joint_history.specs.Ending.{HasIdleDriver}
use Rattle.joint_history.specs.Operations.{IsOwnThread}

-- a managed thread's caller
abbrev pub IsReader : Pass → Type 0
IsReader p = IsManagedThread p.thread × (last_index (own p) ≤ 1)

-- a caller that isn't the driver's
abbrev pub IsWorker : Pass → Type 0
IsWorker p = IsOwnThread p.thread × (last_index (own p) ≤ 1)

-- the thread's caller later on
abbrev pub GoesOn : Pass → Pass → Type 0
GoesOn old new = (new.thread ≡ old.thread) × (last_index (own new) ≤ 1)

-- a caller of any thread; the driver's is idle
abbrev pub IsReady : Pass → Type 0
IsReady p = IsThread p.thread × (last_index (own p) ≤ 1) × HasIdleDriver p

-- what a thread ends with, unless it found no memory: its caller, and the driver's is idle
abbrev pub EndsIdle : {E : Type 0} → Pass → Result Pass E → Type 0
EndsIdle p result = IfOk result (λ q. GoesOn p q × HasIdleDriver q)
