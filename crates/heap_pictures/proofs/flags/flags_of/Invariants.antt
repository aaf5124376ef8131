use Rattle.std.proofs.Common.{◌≡◌, ◌+◌, length, take}
use Rattle.heap_pictures.specs.Flags.{AreFlags}
use Rattle.heap_pictures.proofs.flags.flags_of.Given as goal

abbrev pub invariant-loop-n : goal.invariant-loop-n
invariant-loop-n l = record {
  len : length l.flags.items ≡ l.most + 1;
  so_far : AreFlags l.most (take l.n-index l.numbers) l.flags.items;
}
