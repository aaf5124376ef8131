-- The numbers so far were put.
use Rattle.std.proofs.Common.{◌≡◌, take}
use Rattle.joint_machine.specs.Histories.{managed_numbers}
use Rattle.joint_replay.proofs.roots.as_objects.Given as goal

abbrev pub invariant-loop-x : goal.invariant-loop-x
invariant-loop-x l = managed_numbers l.objects.items ≡ take l.x-index l.numbers
