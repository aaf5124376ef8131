use Rattle.cycle_tests.proofs.abandoned.a_cycle_without_memory_is_made_by_the_next_one.Goals as goal
use Rattle.joint_history.proofs.KnownCallers.{first_knows_nothing}

pub run-requires-clause-seat : goal.run-requires-clause-seat
run-requires-clause-seat g c = (c.in_ok-order.ensures.seat.0, c.in_ok-order.ensures.all, first_knows_nothing _ c.in_ok-order.ensures.seat.1, c.in_ok-order.ensures.settled)
