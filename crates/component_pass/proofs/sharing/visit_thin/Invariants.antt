use Rattle.std.proofs.Common.{◌≡◌, ℕ, true, false, take, get_or}
use Rattle.std.specs.List.{Contains}
use Rattle.component_pass.specs.Sharing.{VisitsThin}
use Rattle.component_pass.proofs.sharing.visit_thin.Given as goal

abbrev pub invariant-loop-y : goal.invariant-loop-y
invariant-loop-y l = record {
  listed : (y : ℕ) → get_or l.marks y false ≡ true → Contains l.near.items y;
  visits : VisitsThin (take l.y-index l.row) l.thin l.initial.near.items l.initial.marks l.near.items l.marks;
}
