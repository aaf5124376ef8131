use Rattle.std.proofs.Common.{ℕ, List, subst, sym}
use Rattle.std.specs.List.{Contains}
use Rattle.cycle_check.proofs.kept.has_kept.Goals as goal

pub returns-in-None : goal.returns-in-None
returns-in-None c = λ w. c.in-None.ensures w.0 (subst (λ (r : List ℕ). Contains r w.0) (sym c.packed_row.ensures) w.1) w.2
