use Rattle.worked_histories.proofs.Examples.{pinned_object-run}
use Rattle.worked_histories.proofs.runs.object_in_a_pin_run.Goals as goal

pub returns : goal.returns
returns c = pinned_object-run
