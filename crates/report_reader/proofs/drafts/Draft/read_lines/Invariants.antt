use Rattle.std.proofs.Common.{◌+◌, ◌≤◌, length}
use Rattle.report_reader.specs.Steps.{GoesTo}
use Rattle.report_reader.proofs.drafts.Draft.read_lines.Given as goal

abbrev pub invariant-loop-self : goal.invariant-loop-self
invariant-loop-self l = record {
  goes : GoesTo l.fn.self l.self l.bytes l.left;
  few : length l.self.entries + length l.left ≤ length l.fn.self.entries + length l.bytes;
  within : length l.left ≤ length l.bytes;
}

abbrev pub decreases-loop-self : goal.decreases-loop-self
decreases-loop-self l = length l.left
