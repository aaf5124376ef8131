use Rattle.caller_turns.proofs.Turning.{turns_tested}
use Rattle.caller_turns.proofs.laws.turns_are_tested.Goals as goal

pub returns : goal.returns
returns c = turns_tested
