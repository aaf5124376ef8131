use Rattle.std.proofs.Common.{◌≡◌, ◌≤◌, take}
use Rattle.android_log.specs.Frames.{trimmed_len}
use Rattle.android_log.proofs.frames.trimmed_len.Given as goal

abbrev pub invariant-loop-i : goal.invariant-loop-i
invariant-loop-i l = record {
  is : l.len ≡ trimmed_len (take l.i l.text);
  within : l.len ≤ l.i;
}
