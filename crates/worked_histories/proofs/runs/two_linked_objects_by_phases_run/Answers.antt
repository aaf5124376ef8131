use Rattle.worked_histories.proofs.Examples.{two_phased-run}
use Rattle.worked_histories.proofs.runs.two_linked_objects_by_phases_run.Goals as goal

pub returns : goal.returns
returns c = two_phased-run
