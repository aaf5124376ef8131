use Rattle.joint_laws.proofs.CompleteRuns.{projection_is_run, run_is_one}
use Rattle.joint_laws.proofs.runs.joint_projection_is_a_run.Goals as goal

pub returns : goal.returns
returns c = record { lawful = projection_is_run; one = run_is_one }
