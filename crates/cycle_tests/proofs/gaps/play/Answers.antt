use Rattle.cycle_tests.proofs.gaps.play.Goals as goal
use Rattle.joint_history.proofs.KnownCallers.{first_knows_nothing}

pub seen_of-requires-clause-seat : goal.seen_of-requires-clause-seat
seen_of-requires-clause-seat g c = (c.in_ok-order.ensures.seat.0, c.in_ok-order.ensures.all, first_knows_nothing _ c.in_ok-order.ensures.seat.1, c.in_ok-order.ensures.settled)
