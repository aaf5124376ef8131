-- The handles so far are done.
use Rattle.std.proofs.Common.{◌≡◌, take}
use Rattle.std.specs.Prelude.{Contains}
use Rattle.row_marking.specs.Traces.{Greyed}
use Rattle.peer_heap.specs.Marking.{strong_in}
use Rattle.peer_heap.proofs.marking.visit_strong.Given as goal

abbrev pub invariant-loop-i : goal.invariant-loop-i
invariant-loop-i l = record {
  rest : l.heap ≡ record l.fn.heap { marks = l.heap.marks; links = l.heap.links };
  greyed : Greyed (Contains (strong_in (take l.i l.table.rows))) l.fn.heap.marks l.fn.heap.links l.fn.grey l.heap.marks l.heap.links l.grey;
}
