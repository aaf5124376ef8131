use Rattle.joint_laws.proofs.JointStates.{twin_is_registered}
use Rattle.joint_laws.proofs.linked.joint_twin_is_registered.Goals as goal

pub returns : goal.returns
returns c = twin_is_registered
