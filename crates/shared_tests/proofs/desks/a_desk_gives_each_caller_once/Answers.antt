use Rattle.shared_tests.proofs.desks.a_desk_gives_each_caller_once.Goals as goal
use Rattle.joint_history.proofs.KnownCallers.{first_knows_nothing}

pub given-requires-clause-seat : goal.given-requires-clause-seat
given-requires-clause-seat g c = (c.in_ok-order.ensures.seat.0, c.in_ok-order.ensures.all, first_knows_nothing _ c.in_ok-order.ensures.seat.1, c.in_ok-order.ensures.settled)
