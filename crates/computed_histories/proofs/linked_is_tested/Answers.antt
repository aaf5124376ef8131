use Rattle.computed_histories.proofs.ReadingTests.{linked_tested, linked_has_queued}
use Rattle.computed_histories.proofs.linked_is_tested.Goals as goal

pub returns : goal.returns
returns c = record { linked = linked_tested; queued = linked_has_queued }
