use Rattle.std.proofs.Common.{◌≤◌, take}
use Rattle.byte_streams.specs.Sending.{BuffersText}
use Rattle.graph_listing.specs.Listing.{all_comps, components_text}
use Rattle.graph_listing.specs.Numbers.{listed_of}
use Rattle.graph_listing.proofs.listing.write_components.Given as goal

abbrev pub invariant-loop-c : goal.invariant-loop-c
invariant-loop-c g l = record {
  so_far : BuffersText (g.K.Sink.held l.fn.out) (g.K.Sink.held l.out) l.fn.line.text l.line.text (components_text 0 (take l.c (all_comps (listed_of 0 l.graph l.comps))));
  later : g.K.Sink.faults l.fn.out ≤ g.K.Sink.faults l.out;
}
