use Rattle.std.proofs.Common.{◌≤◌, length}
use Rattle.entry_reader.specs.Meaning.{as_managed}
use Rattle.entry_reader.proofs.NumberParts.{PutSoFar}
use Rattle.entry_reader.proofs.lists.put_managed.Given as goal

abbrev pub invariant-loop-n : goal.invariant-loop-n
invariant-loop-n l = record {
  so_far : PutSoFar as_managed l.rising 109 l.least l.fn.words l.words l.fn.list.items l.list.items;
  limit : length l.list.items ≤ 4294967295;
}

abbrev pub decreases-loop-n : goal.decreases-loop-n
decreases-loop-n l = length l.words
