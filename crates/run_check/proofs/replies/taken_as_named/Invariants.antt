use Rattle.joint_machine.specs.Histories.{managed_numbers}
use Rattle.run_check.proofs.Stretches.{AreAlikeFrom}
use Rattle.run_check.proofs.replies.taken_as_named.Given as goal

abbrev pub invariant-loop-i : goal.invariant-loop-i
invariant-loop-i l = AreAlikeFrom (managed_numbers l.h.notices) (l.side.state.managed.notices) l.fn.span.first l.i
