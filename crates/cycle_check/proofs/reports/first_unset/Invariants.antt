use Rattle.std.proofs.Common.{ℕ, take}
use Rattle.std.specs.List.{Contains}
use Rattle.array_graphs.specs.Graphs.{IsSet}
use Rattle.cycle_check.proofs.reports.first_unset.Given as goal

abbrev pub invariant-loop-x : goal.invariant-loop-x
invariant-loop-x l = (z : ℕ) → Contains (take l.x-index l.objects) z → IsSet l.flags z
