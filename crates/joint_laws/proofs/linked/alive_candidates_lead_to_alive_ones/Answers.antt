use Rattle.joint_laws.proofs.LinkedStates.{alive_lead_to_alive}
use Rattle.joint_laws.proofs.linked.alive_candidates_lead_to_alive_ones.Goals as goal

pub returns : goal.returns
returns c = alive_lead_to_alive
