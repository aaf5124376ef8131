use Rattle.weak_reads.specs.Racing.{GoesOn, IsReader}
use Rattle.weak_reads.proofs.jobs.read_until.Given as goal

abbrev pub invariant-loop : goal.invariant-loop
invariant-loop g l = (goal.iterator-loop g).can_next l.iterator' × (goal.iterator-loop g).is_finite l.iterator' × IsReader l.caller × GoesOn l.fn.caller l.caller
