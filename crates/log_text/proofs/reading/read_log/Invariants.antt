use Rattle.std.proofs.Common.{◌≡◌, ◌++◌, length}
use Rattle.log_text.specs.Text.{lines_text}
use Rattle.log_text.proofs.reading.read_log.Given as goal

abbrev pub invariant-loop-line : goal.invariant-loop-line
invariant-loop-line l = l.bytes ≡ lines_text l.log ++ l.lines

abbrev pub decreases-loop-line : goal.decreases-loop-line
decreases-loop-line l = length l.lines
