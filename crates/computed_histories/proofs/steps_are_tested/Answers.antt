use Rattle.computed_histories.proofs.StateTests.{states_tested}
use Rattle.computed_histories.proofs.StepTests.{steps_tested, runs_tested}
use Rattle.computed_histories.proofs.steps_are_tested.Goals as goal

pub returns : goal.returns
returns c = record { one = steps_tested; run = runs_tested; states = states_tested }
