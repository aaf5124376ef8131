use Rattle.std.proofs.Common.{◌≡◌, get_or}
use Rattle.component_pass.specs.Gathering.{set_at}
use Rattle.component_pass.specs.Sharing.{AreListedBelow}
use Rattle.component_pass.proofs.sharing.list_sets.Given as goal

abbrev pub invariant-loop-i : goal.invariant-loop-i
invariant-loop-i l = record {
  comps : l.builder.comps ≡ l.initial.builder.comps;
  heavy : l.builder.heavy ≡ l.initial.builder.heavy;
  pairs : AreListedBelow (λ i. set_at l.count l.lists (get_or l.refs i 0)) l.i l.builder.pairs;
}
