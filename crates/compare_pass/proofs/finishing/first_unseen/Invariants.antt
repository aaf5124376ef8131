use Rattle.std.proofs.Common.{◌≡◌, ◌≤◌, ◌<◌, ◌-◌, ℕ, true, false, length, get_or}
use Rattle.compare_pass.proofs.finishing.first_unseen.Given as goal

abbrev pub invariant-loop-next : goal.invariant-loop-next
invariant-loop-next l = record {
  later : l.from ≤ l.next;
  seen : (k : ℕ) → l.from ≤ k → k < l.next → k < length l.row → get_or l.seen (get_or l.row k 0) false ≡ true;
}

abbrev pub decreases-loop-next : goal.decreases-loop-next
decreases-loop-next l = length l.row - l.next
