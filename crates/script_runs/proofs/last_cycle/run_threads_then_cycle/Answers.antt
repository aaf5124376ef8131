use Rattle.std.proofs.Common.{refl, sym, subst}
use Rattle.joint_history.specs.Callers.{KnowsNothing}
use Rattle.script_runs.proofs.last_cycle.run_threads_then_cycle.Goals as goal

pub run_named-requires-clause-seat : goal.run_named-requires-clause-seat
run_named-requires-clause-seat g c κs w = (c.in_ok-order.ensures.seat.0, c.in_ok-order.ensures.all, subst KnowsNothing (sym c.in_ok-order.ensures.seat.1) (λ j. refl), c.in_ok-order.ensures.settled)
