use Rattle.worked_histories.proofs.Examples.{two_phased-lawful}
use Rattle.worked_histories.proofs.histories.two_linked_objects_by_phases.Goals as goal

pub returns : goal.returns
returns c = two_phased-lawful
