use Rattle.computed_histories.proofs.HistoryTests.{may_come_tested, all_may_come_tested}
use Rattle.computed_histories.proofs.may_come_is_tested.Goals as goal

pub returns : goal.returns
returns c = record { one = may_come_tested; every = all_may_come_tested }
