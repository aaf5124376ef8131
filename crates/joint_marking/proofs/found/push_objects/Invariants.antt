-- The objects so far stand at the end.
use Rattle.std.proofs.Common.{◌≡◌, ◌++◌, take}
use Rattle.joint_machine.specs.Histories.{managed_numbers}
use Rattle.joint_marking.proofs.found.push_objects.Given as goal

abbrev pub invariant-loop-x : goal.invariant-loop-x
invariant-loop-x l = l.nodes.items ≡ l.fn.nodes.items ++ managed_numbers (take l.x-index l.objects)
