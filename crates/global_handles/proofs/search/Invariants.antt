-- The names before the span have smaller numbers, those behind it greater ones.
use Rattle.std.proofs.Common.{◌≡◌, ◌-◌, ◌<◌, ◌≤◌, ℕ, Some, length, slice_get}
use Rattle.global_handles.specs.declared.Name.{Name}
use Rattle.global_handles.proofs.search.Given as goal

abbrev pub invariant-loop-low : goal.invariant-loop-low
invariant-loop-low l = record {
  order : l.low ≤ l.high;
  within : l.high ≤ length l.fn.names;
  below : (i : ℕ) (e : Name) → i < l.low → slice_get l.fn.names i ≡ Some e → e.number < l.fn.h.0;
  above : (i : ℕ) (e : Name) → l.high ≤ i → slice_get l.fn.names i ≡ Some e → l.fn.h.0 < e.number;
}

abbrev pub decreases-loop-low : goal.decreases-loop-low
decreases-loop-low l = l.high - l.low
