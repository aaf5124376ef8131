use Rattle.listing_laws.proofs.Written.{ends_failed, ends_listing}
use Rattle.script_runs.proofs.compared.write_last.Goals as goal

pub returns-in-Ok : goal.returns-in-Ok
returns-in-Ok g c = λ start first cycles n w. ends_listing _ _ first _ _ _ _ start cycles c.args.listing.cycles n (rw c.in-Ok.is at w) c.write_end.ensures

pub returns-in-Err : goal.returns-in-Err
returns-in-Err g c = λ start first cycles n w. ends_failed _ first _ _ start cycles (rw c.in-Err.is at w)
