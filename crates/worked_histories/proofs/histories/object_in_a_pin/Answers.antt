use Rattle.worked_histories.proofs.Examples.{pinned_object-lawful}
use Rattle.worked_histories.proofs.histories.object_in_a_pin.Goals as goal

pub returns : goal.returns
returns c = pinned_object-lawful
