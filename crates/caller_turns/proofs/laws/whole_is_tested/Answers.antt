use Rattle.caller_turns.proofs.Turning.{whole_tested}
use Rattle.caller_turns.proofs.laws.whole_is_tested.Goals as goal

pub returns : goal.returns
returns c = whole_tested
