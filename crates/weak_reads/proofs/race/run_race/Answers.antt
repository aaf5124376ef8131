use Rattle.joint_history.proofs.KnownCallers.{first_knows_nothing}
use Rattle.weak_reads.proofs.race.run_race.Goals as goal

pub run-requires-clause-seat : goal.run-requires-clause-seat
run-requires-clause-seat g c κs within = (c.in_ok-order.ensures.seat.0, c.in_ok-order.ensures.all, first_knows_nothing _ c.in_ok-order.ensures.seat.1, c.in_ok-order.ensures.settled)
