use Rattle.worked_histories.proofs.Examples.{deletion-run}
use Rattle.worked_histories.proofs.runs.field_emptied_in_a_marking_run.Goals as goal

pub returns : goal.returns
returns c = deletion-run
