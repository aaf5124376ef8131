use Rattle.std.proofs.Common.{◌≡◌}
use Rattle.script_generator.specs.Generated.{generated}
use Rattle.script_generator.proofs.scripts.lines_of.Given as goal

abbrev pub invariant-loop-i : goal.invariant-loop-i
invariant-loop-i l = l.lines.items ≡ generated l.seed l.i
