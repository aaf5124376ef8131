use Rattle.joint_laws.proofs.CompleteRuns.{projection_is_complete, every_run_is_complete}
use Rattle.joint_laws.proofs.runs.joint_projection_is_complete.Goals as goal

pub returns : goal.returns
returns c = record { lawful = projection_is_complete; every = every_run_is_complete }
