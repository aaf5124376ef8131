use Rattle.worked_histories.proofs.Examples.{cross_heap_cycle-run}
use Rattle.worked_histories.proofs.runs.cycle_across_both_heaps_run.Goals as goal

pub returns : goal.returns
returns c = cross_heap_cycle-run
