use Rattle.weak_reads.specs.Racing.{GoesOn, IsReader}
use Rattle.weak_reads.proofs.heap.make_list.Given as goal

abbrev pub invariant-loop : goal.invariant-loop
invariant-loop g l = IsReader l.caller × GoesOn l.fn.caller l.caller
