use Rattle.worked_histories.proofs.Examples.{cross_heap_cycle-lawful}
use Rattle.worked_histories.proofs.histories.cycle_across_both_heaps.Goals as goal

pub returns : goal.returns
returns c = cross_heap_cycle-lawful
