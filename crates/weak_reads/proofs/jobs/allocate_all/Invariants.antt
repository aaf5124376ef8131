use Rattle.weak_reads.specs.Racing.{GoesOn, IsWorker}
use Rattle.weak_reads.proofs.jobs.allocate_all.Given as goal

abbrev pub invariant-loop : goal.invariant-loop
invariant-loop g l = (goal.iterator-loop g).can_next l.iterator' × (goal.iterator-loop g).is_finite l.iterator' × IsWorker l.caller × GoesOn l.fn.caller l.caller
