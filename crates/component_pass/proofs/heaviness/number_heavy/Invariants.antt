use Rattle.std.proofs.Common.{◌≡◌, List, ℕ, length}
use Rattle.component_pass.specs.Reporting.{AreHeavyBelow}
use Rattle.component_pass.proofs.heaviness.number_heavy.Given as goal

abbrev pub invariant-loop-x : goal.invariant-loop-x
invariant-loop-x l = record {
  heavy : (hs : List ℕ) × (length hs ≡ l.builder.heavy) × AreHeavyBelow l.labels l.initial.indexes l.outs l.ins (length l.initial.builder.comps) l.x l.indexes hs;
  comps : l.builder.comps ≡ l.initial.builder.comps;
  pairs : l.builder.pairs ≡ l.initial.builder.pairs;
}
