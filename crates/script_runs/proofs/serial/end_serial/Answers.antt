use Rattle.std.proofs.Common.{refl, sym, subst}
use Rattle.joint_history.specs.Callers.{KnowsNothing}
use Rattle.script_runs.proofs.serial.end_serial.Goals as goal

pub end_named-requires-clause-seat : goal.end_named-requires-clause-seat
end_named-requires-clause-seat g c = (c.in_ok-order.ensures.seat.0, c.in_ok-order.ensures.all, subst KnowsNothing (sym c.in_ok-order.ensures.seat.1) (λ j. refl), c.in_ok-order.ensures.settled)
