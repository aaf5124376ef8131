use Rattle.std.proofs.Common.{◌≡◌, ◌<◌, ℕ, true, false, get_or}
use Rattle.component_pass.proofs.sharing.unmark.Given as goal

abbrev pub invariant-loop-x : goal.invariant-loop-x
invariant-loop-x l = record {
  taken : (k : ℕ) → k < l.x-index → get_or l.marks (get_or l.near k 0) false ≡ false;
  before : (y : ℕ) → get_or l.marks y false ≡ true → get_or l.initial.marks y false ≡ true;
}
