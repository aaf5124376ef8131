use Rattle.joint_laws.proofs.DeadMirrors.{dead_part_is_mirrored}
use Rattle.joint_laws.proofs.managed.dead_part_is_mirrored.Goals as goal

pub returns : goal.returns
returns c = dead_part_is_mirrored
