-- The candidates so far that hold the handle have had the answer.
use Rattle.std.proofs.Common.{◌≡◌, take}
use Rattle.joint_machine.specs.Run.{answered_for}
use Rattle.joint_replay.specs.Answers.{said_as, answers_as}
use Rattle.joint_replay.proofs.answers.answer_each.Given as goal

abbrev pub invariant-loop-i : goal.invariant-loop-i
invariant-loop-i l = answers_as l.answers.items ≡ answered_for l.managed l.h (said_as l.said) (take l.i l.candidates) (answers_as l.fn.answers.items)
