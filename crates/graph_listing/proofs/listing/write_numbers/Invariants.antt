use Rattle.std.proofs.Common.{◌≤◌, map, take}
use Rattle.byte_streams.specs.Sending.{BuffersText}
use Rattle.byte_streams.specs.Spaced.{after_spaces}
use Rattle.history_report.specs.Lists.{lettered}
use Rattle.graph_listing.specs.Numbers.{number_in}
use Rattle.graph_listing.proofs.listing.write_numbers.Given as goal

abbrev pub invariant-loop-x : goal.invariant-loop-x
invariant-loop-x g l = record {
  so_far : BuffersText (g.K.Sink.held l.fn.out) (g.K.Sink.held l.out) l.fn.line.text l.line.text (after_spaces (lettered 109 (take l.x-index (map (number_in l.graph.nodes) l.objs))));
  later : g.K.Sink.faults l.fn.out ≤ g.K.Sink.faults l.out;
}
