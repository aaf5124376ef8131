use Rattle.joint_laws.proofs.ManagedEntries.{managed_invariant_stands}
use Rattle.joint_laws.proofs.managed.managed_invariant_holds.Goals as goal

pub returns : goal.returns
returns c = managed_invariant_stands
