use Rattle.std.proofs.Common.{◌≡◌}
use Rattle.picture_program.specs.Lines.{after_lines}
use Rattle.picture_program.proofs.lines.after_lines.Given as goal

abbrev pub invariant-loop-i : goal.invariant-loop-i
invariant-loop-i l = l.rest ≡ after_lines l.i l.bytes
