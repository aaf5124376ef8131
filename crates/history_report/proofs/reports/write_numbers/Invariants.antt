use Rattle.std.proofs.Common.{◌≤◌, take, drop}
use Rattle.byte_streams.specs.Sending.{BuffersText}
use Rattle.byte_streams.specs.Spaced.{after_spaces}
use Rattle.history_report.specs.Lists.{lettered, numbers_of, letter_of}
use Rattle.history_report.proofs.reports.write_numbers.Given as goal

abbrev pub invariant-loop-k : goal.invariant-loop-k
invariant-loop-k g l = record {
  so_far : BuffersText (g.K.Sink.held l.fn.out) (g.K.Sink.held l.out) l.fn.line.text l.line.text
      (after_spaces (lettered (letter_of l.numbers) (take l.k (drop l.span.first (take 4294967296 (numbers_of l.h l.numbers))))));
  later : g.K.Sink.faults l.fn.out ≤ g.K.Sink.faults l.out;
}
