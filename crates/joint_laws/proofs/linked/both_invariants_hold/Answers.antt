use Rattle.joint_laws.proofs.LinkedStates.{linkage_invariant_holds}
use Rattle.joint_laws.proofs.linked.both_invariants_hold.Goals as goal

pub returns : goal.returns
returns c = linkage_invariant_holds
