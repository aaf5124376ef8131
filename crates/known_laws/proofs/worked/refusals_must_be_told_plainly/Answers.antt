use Rattle.known_laws.proofs.SmallPasts.{mirrored, weakened, told_differ, unplain}
use Rattle.known_laws.proofs.worked.refusals_must_be_told_plainly.Goals as goal

pub returns : goal.returns
returns c = record { mirrored = mirrored; weakened = weakened; differ = told_differ; not_plain = unplain }
