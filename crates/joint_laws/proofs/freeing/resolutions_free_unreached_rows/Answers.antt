use Rattle.joint_laws.proofs.ManagedFrees.{resolution_frees_unreached}
use Rattle.joint_laws.proofs.freeing.resolutions_free_unreached_rows.Goals as goal

pub returns : goal.returns
returns c = resolution_frees_unreached
