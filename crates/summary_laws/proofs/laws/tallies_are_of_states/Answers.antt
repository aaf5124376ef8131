use Rattle.summary_laws.proofs.Counting.{heaps_add_up, tallies_are_of_states}
use Rattle.summary_laws.proofs.Readings.{heaps_of_linked, tallies_of_linked}
use Rattle.summary_laws.proofs.laws.tallies_are_of_states.Goals as goal

pub returns-clause-list : goal.returns-clause-list
returns-clause-list c = tallies_are_of_states

pub returns-clause-linked : goal.returns-clause-linked
returns-clause-linked c = tallies_of_linked

pub returns-clause-heaps : goal.returns-clause-heaps
returns-clause-heaps c = heaps_add_up

pub returns-clause-linked_heaps : goal.returns-clause-linked_heaps
returns-clause-linked_heaps c = heaps_of_linked
