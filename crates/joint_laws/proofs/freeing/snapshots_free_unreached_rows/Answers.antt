use Rattle.joint_laws.proofs.ManagedFrees.{snapshot_frees_unreached}
use Rattle.joint_laws.proofs.freeing.snapshots_free_unreached_rows.Goals as goal

pub returns : goal.returns
returns c = snapshot_frees_unreached
