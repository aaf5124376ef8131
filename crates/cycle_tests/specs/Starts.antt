-- A desk that gave out the callers of a run. (This project's own.)
use Rattle.std.specs.Prelude.{◌≡◌, List, [], ◌∷◌}
use Rattle.joint_machine.specs.declared.names.Thread.TheVariants.{M, P, C}
use Rattle.joint_history.specs.Callers.{Pass}
use Rattle.joint_history.specs.Desks.{Waiting}
use Rattle.joint_history.specs.Ending.{HasAll, threads_of}

-- each thread's caller still waits there, or the thread is c, p1 or m1
abbrev pub GaveThree : Waiting → Type 0
GaveThree d = (ps : List Pass) → threads_of ps ≡ C ∷ P 1 ∷ M 1 ∷ [] → HasAll d ps
