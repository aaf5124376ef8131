use Rattle.std.proofs.Common.{◌≡◌, ◌≤◌, take}
use Rattle.bridge_script.specs.Scripts.{cycles_of}
use Rattle.bridge_script.proofs.scripts.cycles_of.Given as goal

abbrev pub invariant-loop-line : goal.invariant-loop-line
invariant-loop-line l = record {
  so_far : l.cycles ≡ cycles_of (take l.line-index l.lines);
  small : l.cycles ≤ l.line-index;
}
