use Rattle.std.proofs.Common.{◌≡◌, ℕ, ◌+◌, ◌<◌, ◌≤◌, length}
use Rattle.std.specs.Prelude.{slice_index, slice_index_or}
use Rattle.array_graphs.proofs.graphs.are_in_order.Given as goal

abbrev pub invariant-loop-left : goal.invariant-loop-left
invariant-loop-left l = record {
  within : l.left ≤ length l.starts;
  next : l.next ≡ slice_index_or l.starts l.left l.end;
  order : (x : ℕ) → l.left ≤ x → x < length l.starts → slice_index l.starts x ≤ slice_index_or l.starts (x + 1) l.end;
  below : (x : ℕ) → l.left ≤ x → slice_index_or l.starts x l.end ≤ l.end;
}

abbrev pub decreases-loop-left : goal.decreases-loop-left
decreases-loop-left l = l.left
