use Rattle.computed_histories.proofs.ReadingTests.{pending_tested, unset_tested, reading_tested}
use Rattle.computed_histories.proofs.readings_are_tested.Goals as goal

pub returns : goal.returns
returns c = record { pending = pending_tested; unset = unset_tested; every = reading_tested }
