-- One node more in each turn.
use Rattle.std.proofs.Common.{◌≡◌, ℕ, ◌<◌, List, [], ◌∷◌, ◌++◌, length, sym, ap, subst, ◌∙◌, arith}
use Rattle.std.specs.Prelude.{All}
use Rattle.std.proofs.lemmas.List.FromFn.{length-map-range_with_len, map-range_with_len_more}
use Rattle.bridge_graph.specs.declared.graph.Node.{Node}
use Rattle.bridge_graph.specs.Parts.{row_at}
use Rattle.heap_views.specs.Mirrored.{number_node}
use Rattle.heap_views.proofs.Nodes.{nodes-below, row-none}
use Rattle.heap_views.proofs.mirrored.add_nodes.Goals as goal

pub add_node-requires-clause-rising : goal.add_node-requires-clause-rising
add_node-requires-clause-rising c = subst (λ (ns : List Node). All (λ (n : Node). n.number.0 < c.loop-m.m) ns) (sym c.loop-m.invariant.nodes)
    (nodes-below c.args.joint.now.graph.managed 0 c.loop-m.m c.loop-m.m (omega arith))

pub add_node-requires-clause-few : goal.add_node-requires-clause-few
add_node-requires-clause-few c =
    let many = length-map-range_with_len (number_node c.args.joint.now.graph.managed) 0 c.loop-m.m in
    omega (arith, ap length c.loop-m.invariant.nodes, many)

pub loop-m-preserved : goal.loop-m-preserved
loop-m-preserved c = record {
  nodes = c.in_ok-add_node.ensures.nodes ∙ (ap (λ (ns : List Node). ns ++ number_node c.args.joint.now.graph.managed c.loop-m.m ∷ []) c.loop-m.invariant.nodes
      ∙ sym (map-range_with_len_more (number_node c.args.joint.now.graph.managed) 0 c.loop-m.m c.loop-m.m (omega arith)));
  edges = λ a. (subst (λ (es : List (List ℕ)). row_at es a ≡ []) (sym c.in_ok-add_node.ensures.edges) (row-none c.loop-m.builder.edges a c.loop-m.invariant.edges));
}
