-- The places so far had their turn.
use Rattle.std.proofs.Common.{◌≡◌, map}
use Rattle.row_heap.specs.Places.{bare, links_in, marks_in}
use Rattle.row_heap.specs.Rows.{AreSightsMarked}
use Rattle.row_marking.specs.Traces.{Greyed}
use Rattle.row_heap.proofs.Sources.{IsLedBelow}
use Rattle.row_heap.proofs.tracing.mark_sources.Given as goal

abbrev pub invariant-loop-i : goal.invariant-loop-i
invariant-loop-i l = record {
  kept : map bare l.rows ≡ map bare l.fn.rows;
  rest : l.references ≡ record l.fn.references { seen = l.references.seen; links = l.references.links };
  sights : AreSightsMarked l.references l.rows;
  greyed : Greyed (IsLedBelow l.fn.references.refs l.fn.rows l.i) (marks_in l.fn.rows) (links_in l.fn.rows) l.fn.grey (marks_in l.rows) (links_in l.rows) l.grey;
}
