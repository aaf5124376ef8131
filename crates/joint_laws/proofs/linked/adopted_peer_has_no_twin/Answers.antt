use Rattle.joint_laws.proofs.LinkedStates.{adopted_peer_has_no_twin}
use Rattle.joint_laws.proofs.linked.adopted_peer_has_no_twin.Goals as goal

pub returns : goal.returns
returns c = adopted_peer_has_no_twin
