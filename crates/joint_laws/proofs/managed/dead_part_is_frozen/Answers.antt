use Rattle.joint_laws.proofs.ManagedEntries.{dead_part_is_frozen}
use Rattle.joint_laws.proofs.managed.dead_part_is_frozen.Goals as goal

pub returns : goal.returns
returns c = dead_part_is_frozen
