use Rattle.std.proofs.Common.{◌≡◌, ◌++◌, List, ℕ, length}
use Rattle.bridge_graph.specs.Parts.{IsBridgeNode, NodeLeads}
use Rattle.compare_pass.specs.Listing.{AreHeavyBelow}
use Rattle.compare_pass.proofs.heaviness.list_heavy.Given as goal

abbrev pub invariant-loop-x : goal.invariant-loop-x
invariant-loop-x l = record {
  heavy : (hs : List ℕ) × (length hs ≡ l.builder.heavy) × (l.stands.items ≡ l.initial.stands.items ++ hs)
      × AreHeavyBelow (IsBridgeNode l.graph.nodes) (NodeLeads l.graph.edges) (length l.graph.nodes) l.labels l.initial.indexes l.initial.stands.items l.x l.indexes hs;
  comps : l.builder.comps ≡ l.initial.builder.comps;
  pairs : l.builder.pairs ≡ l.initial.builder.pairs;
}
