use Rattle.shared_tests.proofs.readers.what_a_pin_holds_is_never_freed.Goals as goal
use Rattle.joint_history.proofs.KnownCallers.{first_knows_nothing}

pub run-requires-clause-seat : goal.run-requires-clause-seat
run-requires-clause-seat g c within = (c.in_ok-order.ensures.seat.0, c.in_ok-order.ensures.all, first_knows_nothing _ c.in_ok-order.ensures.seat.1, c.in_ok-order.ensures.settled)
