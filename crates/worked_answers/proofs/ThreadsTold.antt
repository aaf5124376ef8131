-- The entries of the two histories differ at the first place.
use Rattle.std.proofs.Common.{◌≡◌, ℕ, List, [], ◌∷◌, ap, arith}
use Rattle.joint_machine.specs.declared.events.Entry.{Entry}
use Rattle.worked_answers.specs.Threads.{ThreadsAreTold}

-- the line of the first entry
abbrev first_line : List Entry → ℕ
first_line [] = 0
first_line (e ∷ es) = e.made.index

pub threads_are_told : ThreadsAreTold
threads_are_told a b o = let e : 1 ≡ 2 = ap first_line o.shown.entries in omega (arith, e)
