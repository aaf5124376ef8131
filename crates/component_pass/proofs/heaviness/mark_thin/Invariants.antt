use Rattle.std.proofs.Common.{◌≡◌, ◌↔◌, ◌≤◌, ◌<◌, ℕ, true, false, length, get_or}
use Rattle.component_pass.proofs.heaviness.mark_thin.Given as goal

abbrev pub invariant-loop-x : goal.invariant-loop-x
invariant-loop-x l = record {
  size : length l.thin ≡ length l.initial.thin;
  done : (k : ℕ) → k < l.x → (get_or l.thin k false ≡ true)
      ↔ ((get_or l.indexes (get_or l.labels k 0) 0 ≡ 4294967295) × (3 ≤ get_or l.outs (get_or l.labels k 0) 0) × (get_or l.ins (get_or l.labels k 0) 0 < 3));
}
