use Rattle.weak_reads.specs.Racing.{GoesOn, IsWorker}
use Rattle.weak_reads.proofs.jobs.allocate_some.Given as goal

abbrev pub invariant-loop : goal.invariant-loop
invariant-loop g l = IsWorker l.caller × GoesOn l.fn.caller l.caller
