use Rattle.std.proofs.Common.{◌≡◌, ◌<◌, ℕ, false, get_or}
use Rattle.component_pass.proofs.sharing.has_thin.Given as goal

abbrev pub invariant-loop-y : goal.invariant-loop-y
invariant-loop-y l = record {
  none : (k : ℕ) → k < l.y-index → get_or l.thin (get_or l.row k 0) false ≡ false;
}
