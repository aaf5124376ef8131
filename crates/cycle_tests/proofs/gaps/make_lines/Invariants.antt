use Rattle.std.proofs.Common.{◌≡◌, ◌≤◌}
use Rattle.joint_machine.specs.declared.names.Thread.TheVariants.{M, P}
use Rattle.joint_history.specs.Callers.{last_index, own}
use Rattle.cycle_tests.proofs.gaps.make_lines.Given as goal

abbrev pub invariant-loop-place : goal.invariant-loop-place
invariant-loop-place g l = ((l.one.thread ≡ M 1) × (l.two.thread ≡ P 1)) × (last_index (own l.one) ≤ 1) × (last_index (own l.two) ≤ 1)
