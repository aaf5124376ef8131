use Rattle.worked_histories.proofs.Examples.{disposed_and_surfaced-run}
use Rattle.worked_histories.proofs.runs.disposed_and_surfaced_object_run.Goals as goal

pub returns : goal.returns
returns c = disposed_and_surfaced-run
