use Rattle.std.proofs.Common.{◌≡◌, length, sym, subst, arith}
use Rattle.bridge_graph.specs.Packing.{packed_rows}
use Rattle.bridge_graph.specs.Parts.{NodeLeads}
use Rattle.array_graphs.specs.Made.{HasNodes}
use Rattle.array_graphs.specs.Graphs.{AreEdges}
use Rattle.array_graphs.proofs.Nodes.{nodes-bridge}
use Rattle.array_graphs.proofs.Edges.{edge-end, packed-part, pairs-lead}
use Rattle.array_graphs.proofs.graphs.graph_of_pairs.Goals as goal

pub of_rows-requires : goal.of_rows-requires
of_rows-requires c =
    let kinds = c.args.kinds.now in
    let nodes = c.in_ok-nodes.nodes.items in
    let edges = c.args.edges.now in
    let p = c.in_ok-packed.packed in
    let ends : AreEdges (length kinds) edges = c.if-not-are_edges.ensures in
    let made : HasNodes kinds (length kinds) nodes = c.in_ok-nodes.ensures in
    let rows : length p.starts.items ≡ length kinds = omega (arith, c.in_ok-packed.ensures.count) in
    packed-part kinds nodes p.starts.items p.targets.items made (omega (arith, c.if-kinds-gt-MOST_NODES.false)) rows c.in_ok-packed.ensures.packed.cut
    (omega (arith, c.in_ok-packed.ensures.most, c.if-edges-gt-MOST_EDGES.false))
    (λ x y l. edge-end edges (length kinds) ends x y
    ((pairs-lead edges (length kinds) p.starts.items p.targets.items ends c.in_ok-packed.ensures.packed rows x y).0
    (subst (λ n. NodeLeads (packed_rows p.starts.items p.targets.items n) x y) made.count l)))

pub returns-clause-made : goal.returns-clause-made
returns-clause-made c =
    let kinds = c.args.kinds.now in
    let nodes = c.in_ok-nodes.nodes.items in
    let edges = c.args.edges.now in
    let p = c.in_ok-packed.packed in
    let ends : AreEdges (length kinds) edges = c.if-not-are_edges.ensures in
    let made : HasNodes kinds (length kinds) nodes = c.in_ok-nodes.ensures in
    let rows : length p.starts.items ≡ length kinds = omega (arith, c.in_ok-packed.ensures.count) in record {
      bridges = nodes-bridge kinds c.of_rows.result.nodes (subst (λ ns. HasNodes kinds (length kinds) ns) (sym c.of_rows.ensures.nodes) made);
      leads = λ x y. rw (c.of_rows.ensures.edges, made.count) (pairs-lead edges (length kinds) p.starts.items p.targets.items ends c.in_ok-packed.ensures.packed rows x y);
    }
