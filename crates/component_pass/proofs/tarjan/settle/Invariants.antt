use Rattle.std.proofs.Common.{◌≡◌, ◌<◌, ℕ, get_or}
use Rattle.std.specs.List.{Contains}
use Rattle.component_pass.specs.Tarjan.{done_mark}
use Rattle.component_pass.proofs.tarjan.settle.Given as goal

abbrev pub invariant-loop-x : goal.invariant-loop-x
invariant-loop-x l = record {
  taken : (k : ℕ) → k < l.x-index → (get_or l.marks (get_or l.class k 0) 0 ≡ done_mark) × (get_or l.labels (get_or l.class k 0) 0 ≡ l.label);
  others : (y : ℕ) → (Contains l.class y → ⊥) → (get_or l.marks y 0 ≡ get_or l.initial.marks y 0) × (get_or l.labels y 0 ≡ get_or l.initial.labels y 0);
}
