use Rattle.joint_laws.proofs.RunsAreSound.{snapshots_are_sound}
use Rattle.joint_laws.proofs.runs.snapshots_are_sound.Goals as goal

pub returns : goal.returns
returns c = snapshots_are_sound
