-- What the row's references lead to is gone through: so much is marked, and these temporaries wait.
use Rattle.std.proofs.Common.{◌≡◌, ◌+◌, length, map}
use Rattle.reachability.specs.Marks.{unmarked}
use Rattle.row_marking.specs.Traces.{greys}
use Rattle.row_heap.specs.Places.{bare, links_in, marks_in}
use Rattle.row_heap.proofs.Crossing.{Crossing}
use Rattle.row_heap.proofs.tracing.mark_references.Given as goal

abbrev pub invariant-loop-through : goal.invariant-loop-through
invariant-loop-through l = record {
  kept : map bare l.rows ≡ map bare l.fn.rows;
  rest : l.references ≡ record l.fn.references { seen = l.references.seen; links = l.references.links };
  crossing : Crossing l.fn.references.refs l.x l.fn.references.seen (marks_in l.fn.rows)
      (links_in l.fn.rows) l.fn.grey l.references.seen l.references.links l.through (marks_in l.rows) (links_in l.rows) l.grey;
}

abbrev pub decreases-loop-through : goal.decreases-loop-through
decreases-loop-through l = unmarked l.references.seen + length (greys l.references.links (length l.references.seen) l.through)
