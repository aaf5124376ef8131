use Rattle.computed_histories.proofs.Parts.{snapshot_tested, resolution_tested, contraction_tested, closure_tested, sweep_tested}
use Rattle.computed_histories.proofs.freeing_is_tested.Goals as goal

pub returns : goal.returns
returns c = record { snapshot = snapshot_tested; resolution = resolution_tested; contraction = contraction_tested; closure = closure_tested; sweep = sweep_tested }
