use Rattle.std.proofs.Common.{refl, sym, subst}
use Rattle.joint_history.specs.Callers.{KnowsNothing}
use Rattle.script_runs.proofs.Listing.{nothing_put}
use Rattle.script_runs.proofs.compared.run_compared.Goals as goal

pub compare_named-requires-clause-seat : goal.compare_named-requires-clause-seat
compare_named-requires-clause-seat g c = (c.in-Ok.ensures.seat.0, c.in-Ok.ensures.all, subst KnowsNothing (sym c.in-Ok.ensures.seat.1) (λ j. refl), c.in-Ok.ensures.settled)

pub returns-in_default-clause-memory : goal.returns-in_default-clause-memory
returns-in_default-clause-memory g c = nothing_put _
