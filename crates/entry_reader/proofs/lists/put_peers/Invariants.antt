use Rattle.std.proofs.Common.{◌≤◌, length, true}
use Rattle.entry_reader.specs.Meaning.{as_peers}
use Rattle.entry_reader.proofs.NumberParts.{PutSoFar}
use Rattle.entry_reader.proofs.lists.put_peers.Given as goal

abbrev pub invariant-loop-n : goal.invariant-loop-n
invariant-loop-n l = record {
  so_far : PutSoFar as_peers true 112 l.least l.fn.words l.words l.fn.list.items l.list.items;
  limit : length l.list.items ≤ 4294967295;
}

abbrev pub decreases-loop-n : goal.decreases-loop-n
decreases-loop-n l = length l.words
