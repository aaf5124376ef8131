use Rattle.std.proofs.Common.{◌≡◌, [], false}
use Rattle.std.specs.List.{All}
use Rattle.compare_pass.specs.Referring.{AreReferencesBelow}
use Rattle.compare_pass.proofs.references.refer_all.Given as goal

abbrev pub invariant-loop-i : goal.invariant-loop-i
invariant-loop-i l = record {
  clear : All (λ m. m ≡ false) l.marks;
  found : l.found.items ≡ [];
  outs : l.outs.items ≡ [];
  comps : l.builder.comps ≡ l.initial.builder.comps;
  heavy : l.builder.heavy ≡ l.initial.builder.heavy;
  pairs : AreReferencesBelow l.graph.edges l.labels l.indexes l.stands l.i l.builder.pairs;
}
