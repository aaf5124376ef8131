use Rattle.shared_tests.proofs.readers.eight_threads_read_at_once_while_cycles_go_on.Goals as goal
use Rattle.joint_history.proofs.KnownCallers.{first_knows_nothing}

pub run-requires-clause-seat : goal.run-requires-clause-seat
run-requires-clause-seat g c within = (c.in_ok-order.ensures.seat.0, c.in_ok-order.ensures.all, first_knows_nothing _ c.in_ok-order.ensures.seat.1, c.in_ok-order.ensures.settled)
