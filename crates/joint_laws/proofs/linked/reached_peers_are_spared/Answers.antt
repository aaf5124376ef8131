use Rattle.joint_laws.proofs.JointStates.{reached_is_spared, reached_is_not_swept}
use Rattle.joint_laws.proofs.linked.reached_peers_are_spared.Goals as goal

pub returns : goal.returns
returns c = record { spared = reached_is_spared; unswept = reached_is_not_swept }
