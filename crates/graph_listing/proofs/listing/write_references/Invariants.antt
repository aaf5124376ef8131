use Rattle.std.proofs.Common.{◌≤◌, take}
use Rattle.byte_streams.specs.Sending.{BuffersText}
use Rattle.graph_listing.specs.Listing.{references_text}
use Rattle.graph_listing.proofs.listing.write_references.Given as goal

abbrev pub invariant-loop-i : goal.invariant-loop-i
invariant-loop-i g l = record {
  so_far : BuffersText (g.K.Sink.held l.fn.out) (g.K.Sink.held l.out) l.fn.line.text l.line.text (references_text (take l.i l.comps.pairs));
  later : g.K.Sink.faults l.fn.out ≤ g.K.Sink.faults l.out;
}
