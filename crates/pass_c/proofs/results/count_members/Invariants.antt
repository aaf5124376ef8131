use Rattle.std.proofs.Common.{◌≡◌, length, take}
use Rattle.pass_c.specs.Found.{all_of, flat}
use Rattle.pass_c.proofs.results.count_members.Given as goal

abbrev pub invariant-loop-c : goal.invariant-loop-c
invariant-loop-c l = l.total ≡ length (flat (take l.c (all_of l.found.comps l.heavy)))
