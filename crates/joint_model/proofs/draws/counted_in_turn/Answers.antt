use Rattle.joint_machine.proofs.DrawnInTurn.{DrewInTurn-counts}
use Rattle.joint_model.proofs.draws.counted_in_turn.Goals as goal

pub returns : goal.returns
returns c = DrewInTurn-counts
