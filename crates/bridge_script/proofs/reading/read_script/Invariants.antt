use Rattle.std.proofs.Common.{◌≡◌, ◌-◌, ◌≤◌, length}
use Rattle.std.specs.Io.KnownBytes.{Consumes}
use Rattle.bridge_script.specs.Steps.{taken}
use Rattle.bridge_script.proofs.reading.read_script.Given as goal

abbrev pub invariant-loop-count : goal.invariant-loop-count
invariant-loop-count g l = record {
  read : Consumes (g.S.Source.left l.fn.src) (g.S.Source.left l.src) (taken l.draft);
  size : length (taken l.draft) ≡ l.count;
  within : l.count ≤ 8388609;
  later : g.S.Source.faults l.fn.src ≤ g.S.Source.faults l.src;
}

abbrev pub decreases-loop-count : goal.decreases-loop-count
decreases-loop-count g l = 8388609 - l.count
