use Rattle.worked_histories.proofs.Examples.{disposed_and_surfaced-lawful}
use Rattle.worked_histories.proofs.histories.disposed_and_surfaced_object.Goals as goal

pub returns : goal.returns
returns c = disposed_and_surfaced-lawful
