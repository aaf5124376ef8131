use Rattle.caller_turns.proofs.Turning.{callers_on}
use Rattle.caller_turns.proofs.laws.callers_go_on.Goals as goal

pub returns : goal.returns
returns c = callers_on
