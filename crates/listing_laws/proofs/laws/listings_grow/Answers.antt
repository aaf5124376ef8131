use Rattle.listing_laws.proofs.Growing.{seen_stays}
use Rattle.listing_laws.proofs.Written.{wrote_then}
use Rattle.listing_laws.proofs.laws.listings_grow.Goals as goal

pub returns-clause-grow : goal.returns-clause-grow
returns-clause-grow c = seen_stays

pub returns-clause-written : goal.returns-clause-written
returns-clause-written c = wrote_then
