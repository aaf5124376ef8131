use Rattle.listing_laws.proofs.OneTelling.{states_are_one}
use Rattle.listing_laws.proofs.Seen.{seen_is_listed}
use Rattle.listing_laws.proofs.laws.what_was_seen_is_listed.Goals as goal

pub returns-clause-one : goal.returns-clause-one
returns-clause-one c = states_are_one

pub returns-clause-seen : goal.returns-clause-seen
returns-clause-seen c = seen_is_listed
