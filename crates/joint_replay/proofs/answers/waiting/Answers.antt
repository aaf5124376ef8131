-- One candidate more has no answer.
use Rattle.std.proofs.Common.{replicate, None, ap, ◌∙◌, arith}
use Rattle.joint_replay.specs.Answers.{answers_as}
use Rattle.joint_replay.proofs.Answering.{missing-more}
use Rattle.joint_replay.proofs.answers.waiting.Goals as goal

pub loop-i-preserved : goal.loop-i-preserved
loop-i-preserved c = ap answers_as c.in_ok-push.ensures.items ∙ missing-more c.loop-i.answers.items c.loop-i.i c.loop-i.invariant

pub returns : goal.returns
returns c = c.loop-i.invariant ∙ ap (λ n. replicate n None) (omega (arith, c.loop-i-test.false))
