use Rattle.std.proofs.Common.{◌≡◌, ◌<◌, ℕ, get_or}
use Rattle.std.specs.List.{All, Contains}
use Rattle.compare_pass.specs.Searching.{Opens}
use Rattle.compare_pass.proofs.references.collect.Given as goal

abbrev pub invariant-loop-y : goal.invariant-loop-y
invariant-loop-y l = record {
  from : All (λ j. (y : ℕ) × Contains l.found y × (Opens l.labels l.indexes l.own y → ⊥) × (get_or l.indexes (get_or l.labels y 0) 0 ≡ j)) l.outs.items;
  has : (k : ℕ) → k < l.y-index → (Opens l.labels l.indexes l.own (get_or l.found k 0) → ⊥) → Contains l.outs.items (get_or l.indexes (get_or l.labels (get_or l.found k 0) 0) 0);
}
