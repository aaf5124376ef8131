use Rattle.std.proofs.Common.{◌≡◌, ◌<◌, ℕ, false, get_or}
use Rattle.std.specs.List.{All}
use Rattle.bridge_graph.specs.Parts.{row_at}
use Rattle.component_pass.proofs.sharing.lead_to_thin.Given as goal

abbrev pub invariant-loop-x : goal.invariant-loop-x
invariant-loop-x l = record {
  none : (k : ℕ) → k < l.x-index → All (λ y. get_or l.thin y false ≡ false) (row_at l.graph.edges (get_or l.members k 0));
}
