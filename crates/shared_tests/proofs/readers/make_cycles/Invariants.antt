use Rattle.std.proofs.Common.{◌≤◌}
use Rattle.bridge_cycle.specs.Progress.{line_of}
use Rattle.shared_tests.proofs.readers.make_cycles.Given as goal

abbrev pub invariant-loop-line : goal.invariant-loop-line
invariant-loop-line g l = line_of l.driver ≤ l.line
