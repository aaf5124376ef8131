use Rattle.std.proofs.Common.{◌≡◌, ◌<◌, ℕ, get_or}
use Rattle.std.specs.List.{Contains}
use Rattle.component_pass.proofs.sharing.put.Given as goal

abbrev pub invariant-loop-x : goal.invariant-loop-x
invariant-loop-x l = record {
  taken : (k : ℕ) → k < l.x-index → get_or l.sets (get_or l.class k 0) 0 ≡ l.number;
  others : (y : ℕ) → (Contains l.class y → ⊥) → get_or l.sets y 0 ≡ get_or l.initial.sets y 0;
}
