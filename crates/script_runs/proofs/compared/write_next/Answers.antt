use Rattle.std.proofs.Common.{[], ◌∷◌}
use Rattle.graph_listing.specs.Numbers.{listed_of}
use Rattle.listing_laws.proofs.Written.{goes_failed, goes_one}
use Rattle.script_runs.proofs.compared.write_next.Goals as goal

pub returns-in-Ok : goal.returns-in-Ok
returns-in-Ok g c = rw c.in-Ok.is (goes_one _ _ _ _ _ _ (listed_of c.args.cycle.0 c.args.graph.now c.args.comps.now) c.write_listing.ensures)

pub returns-in-Err : goal.returns-in-Err
returns-in-Err g c = rw c.in-Err.is (goes_failed _ _ _ (listed_of c.args.cycle.0 c.args.graph.now c.args.comps.now ∷ []))
