-- The references from place r on are done, and the last one below it, if it is one, is the end's.
use Rattle.std.proofs.Common.{◌≡◌, map}
use Rattle.row_heap.specs.Ends.{end_of}
use Rattle.row_heap.specs.Places.{bare, links_in, marks_in}
use Rattle.row_heap.proofs.Followed.{Following}
use Rattle.row_heap.proofs.tracing.visit_ends.Given as goal

abbrev pub invariant-loop-r : goal.invariant-loop-r
invariant-loop-r l = record {
  kept : map bare l.rows ≡ map bare l.fn.rows;
  rest : l.references ≡ record l.fn.references { seen = l.references.seen; links = l.references.links };
  following : Following l.fn.references.refs (end_of l.fn.from) l.r (marks_in l.fn.rows) (links_in l.fn.rows) l.fn.grey l.fn.references.seen l.fn.references.links l.fn.through
      (marks_in l.rows) (links_in l.rows) l.grey l.references.seen l.references.links l.through;
}

abbrev pub decreases-loop-r : goal.decreases-loop-r
decreases-loop-r l = l.r
