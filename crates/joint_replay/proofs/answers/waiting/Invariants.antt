-- So many have no answer.
use Rattle.std.proofs.Common.{◌≡◌, replicate, None}
use Rattle.joint_replay.specs.Answers.{answers_as}
use Rattle.joint_replay.proofs.answers.waiting.Given as goal

abbrev pub invariant-loop-i : goal.invariant-loop-i
invariant-loop-i l = answers_as l.answers.items ≡ replicate l.i None
