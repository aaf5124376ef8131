use Rattle.joint_machine.proofs.DrawnInTurn.{DrewInTurn-append}
use Rattle.joint_model.proofs.draws.drawn_in_turn.Goals as goal

pub returns : goal.returns
returns g c = DrewInTurn-append _
