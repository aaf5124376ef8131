use Rattle.worked_histories.proofs.Examples.{deletion-lawful}
use Rattle.worked_histories.proofs.histories.field_emptied_in_a_marking.Goals as goal

pub returns : goal.returns
returns c = deletion-lawful
