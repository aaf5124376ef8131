use Rattle.std.proofs.Common.{◌≡◌, ◌≤◌}
use Rattle.joint_machine.specs.declared.names.Thread.TheVariants.{M, P}
use Rattle.joint_history.specs.Callers.{last_index, own}
use Rattle.shared_tests.proofs.runs.run_lines.Given as goal

abbrev pub invariant-loop-line : goal.invariant-loop-line
invariant-loop-line g l = (l.one.thread ≡ M 1) × (l.two.thread ≡ P 1) × (last_index (own l.one) ≤ l.line) × (last_index (own l.two) ≤ l.line)
