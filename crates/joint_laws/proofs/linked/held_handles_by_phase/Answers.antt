use Rattle.joint_laws.proofs.HandlePhases.{held_by_phase}
use Rattle.joint_laws.proofs.linked.held_handles_by_phase.Goals as goal

pub returns : goal.returns
returns c = held_by_phase
