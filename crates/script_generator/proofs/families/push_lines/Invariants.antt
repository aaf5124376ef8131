use Rattle.std.proofs.Common.{◌≡◌, ◌++◌, take}
use Rattle.script_generator.specs.Families.{lines_by}
use Rattle.script_generator.proofs.families.push_lines.Given as goal

abbrev pub invariant-loop-act : goal.invariant-loop-act
invariant-loop-act l = l.lines.items ≡ l.initial.lines.items ++ lines_by l.thread (take l.act-index l.acts)
