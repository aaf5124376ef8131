use Rattle.joint_laws.proofs.CompleteRuns.{projection_is_sound, every_run_is_sound}
use Rattle.joint_laws.proofs.runs.joint_projection_is_sound.Goals as goal

pub returns : goal.returns
returns c = record { lawful = projection_is_sound; every = every_run_is_sound }
