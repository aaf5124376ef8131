-- The answers so far have the handles of their places.
use Rattle.std.proofs.Common.{◌≡◌, ◌+◌, ◌-◌, length}
use Rattle.side_tests.specs.Drives.{AreFrom}
use Rattle.side_tests.proofs.managed.answers_of.Given as goal

abbrev pub invariant-answers : goal.invariant-answers
invariant-answers l = (length l.answers.values + l.answers.room ≡ l.count) × AreFrom l.first l.answers.values

abbrev pub decreases-answers : goal.decreases-answers
decreases-answers l = l.count - length l.answers.values
