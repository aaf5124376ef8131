-- So far no entry was made.
use Rattle.std.proofs.Common.{◌≡◌}
use Rattle.joint_history.specs.Driven.{DriverMakesNone}
use Rattle.joint_history.proofs.shared.Shared.snap.Given as goal

abbrev pub invariant-loop : goal.invariant-loop
invariant-loop g l = (goal.iterator-loop g).can_next l.iterator' × (goal.iterator-loop g).is_finite l.iterator'
    × (l.driver.thread ≡ l.initial.driver.thread) × DriverMakesNone l.initial.driver.view l.driver.view
