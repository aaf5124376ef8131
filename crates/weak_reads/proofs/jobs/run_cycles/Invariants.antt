use Rattle.std.proofs.Common.{◌≤◌}
use Rattle.bridge_cycle.specs.Progress.{line_of}
use Rattle.weak_reads.proofs.jobs.run_cycles.Given as goal

abbrev pub invariant-loop : goal.invariant-loop
invariant-loop g l = (goal.iterator-loop g).can_next l.iterator' × (goal.iterator-loop g).is_finite l.iterator' × (line_of l.driver ≤ 1)
