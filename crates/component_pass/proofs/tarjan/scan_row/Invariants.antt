use Rattle.std.proofs.Common.{◌≡◌, ◌⊎◌, ◌≤◌, ◌<◌, ◌+◌, ◌-◌, ℕ, length, get_or}
use Rattle.component_pass.proofs.tarjan.scan_row.Given as goal

abbrev pub invariant-loop-next : goal.invariant-loop-next
invariant-loop-next l = record {
  later : l.from ≤ l.next;
  within : l.next ≤ length l.row;
  lowest : l.lowest ≤ l.low;
  seen : (k : ℕ) → l.from ≤ k → k < l.next → l.lowest < get_or l.marks (get_or l.row k 0) 0;
  from_row : (l.lowest ≡ l.low) ⊎ ((k : ℕ) × (k < length l.row) × (get_or l.marks (get_or l.row k 0) 0 ≡ l.lowest + 1));
}

abbrev pub decreases-loop-next : goal.decreases-loop-next
decreases-loop-next l = length l.row - l.next
