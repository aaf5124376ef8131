use Rattle.joint_machine.specs.Histories.{managed_numbers}
use Rattle.run_check.proofs.Stretches.{AreAlikeFrom}
use Rattle.run_check.proofs.replies.freed_as_named.Given as goal

abbrev pub invariant-loop-i : goal.invariant-loop-i
invariant-loop-i l = AreAlikeFrom (managed_numbers l.h.freed_managed) (managed_numbers l.freed) l.fn.span.first l.i
