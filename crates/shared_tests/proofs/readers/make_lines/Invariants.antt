use Rattle.std.proofs.Common.{◌≡◌, ◌≤◌}
use Rattle.joint_machine.specs.Lines.{IsManagedThread}
use Rattle.joint_history.specs.Callers.{last_index, own}
use Rattle.shared_tests.proofs.readers.make_lines.Given as goal

abbrev pub invariant-loop-line : goal.invariant-loop-line
invariant-loop-line g l = IsManagedThread l.caller.thread × (l.caller.thread ≡ l.initial.caller.thread) × (last_index (own l.caller) ≤ l.line)
