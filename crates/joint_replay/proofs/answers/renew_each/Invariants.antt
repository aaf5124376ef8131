-- The candidates so far hold their new handles.
use Rattle.std.proofs.Common.{◌≡◌, take}
use Rattle.joint_replay.specs.Answers.{answers_as, renewed_by}
use Rattle.joint_replay.proofs.answers.renew_each.Given as goal

abbrev pub invariant-loop-i : goal.invariant-loop-i
invariant-loop-i l = l.held.items ≡ renewed_by l.fn.held.items (take l.i l.candidates) (answers_as l.answers)
