use Rattle.computed_histories.proofs.GraphTests.{reached_tested, unreached_tested}
use Rattle.computed_histories.proofs.reached_is_tested.Goals as goal

pub returns : goal.returns
returns c = record { row = reached_tested; unreached = unreached_tested }
