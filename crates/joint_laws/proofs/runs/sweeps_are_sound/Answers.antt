use Rattle.joint_laws.proofs.RunsAreSound.{sweeps_are_sound}
use Rattle.joint_laws.proofs.runs.sweeps_are_sound.Goals as goal

pub returns : goal.returns
returns c = sweeps_are_sound
