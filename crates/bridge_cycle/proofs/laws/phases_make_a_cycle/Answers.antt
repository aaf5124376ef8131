use Rattle.bridge_cycle.proofs.Composed.{eight_phases, rest_makes_a_cycle, runs_on}
use Rattle.bridge_cycle.proofs.laws.phases_make_a_cycle.Goals as goal

pub returns-clause-on : goal.returns-clause-on
returns-clause-on c = runs_on

pub returns-clause-eight : goal.returns-clause-eight
returns-clause-eight c = eight_phases

pub returns-clause-rest : goal.returns-clause-rest
returns-clause-rest c = rest_makes_a_cycle
