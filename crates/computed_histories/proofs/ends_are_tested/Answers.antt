use Rattle.computed_histories.proofs.HistoryTests.{numbers_tested, whole_tested, replies_tested}
use Rattle.computed_histories.proofs.ends_are_tested.Goals as goal

pub returns : goal.returns
returns c = record { numbers = numbers_tested; whole = whole_tested; replies = replies_tested }
