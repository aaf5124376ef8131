use Rattle.computed_histories.proofs.Parts.{event_tested, managed_tested, peer_tested, caller_tested}
use Rattle.computed_histories.proofs.events_are_tested.Goals as goal

pub returns : goal.returns
returns c = record { event = event_tested; managed = managed_tested; peer = peer_tested; caller = caller_tested }
