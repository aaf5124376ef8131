use Rattle.std.proofs.Common.{◌≡◌, ℕ, ◌<◌, length, take}
use Rattle.std.specs.Prelude.{Some, slice_get}
use Rattle.pass_c.specs.Found.{all_of, flat}
use Rattle.pass_c.proofs.results.write_members.Given as goal

abbrev pub invariant-loop-c : goal.invariant-loop-c
invariant-loop-c l = record {
  at : l.at ≡ length (flat (take l.c (all_of l.found.comps l.heavy)));
  starts : (k : ℕ) → k < l.c → slice_get l.starts k ≡ Some (length (flat (take k (all_of l.found.comps l.heavy))));
  members : take l.at l.members ≡ flat (take l.c (all_of l.found.comps l.heavy));
}
