use Rattle.std.proofs.Common.{length, sym, subst, ◌∙◌, arith}
use Rattle.array_graphs.specs.Made.{HasNodes}
use Rattle.array_graphs.proofs.Nodes.{nodes-bridge}
use Rattle.array_graphs.proofs.Edges.{packed-part, row-ends, rows-lead}
use Rattle.array_graphs.proofs.graphs.graph_of_rows.Goals as goal

pub of_rows-requires : goal.of_rows-requires
of_rows-requires c =
    let kinds = c.args.kinds.now in
    let nodes = c.in_ok-nodes.nodes.items in
    let starts = c.args.starts.now in
    let targets = c.args.targets.now in
    let rows = c.if-not-are_rows.ensures in
    let made : HasNodes kinds (length kinds) nodes = c.in_ok-nodes.ensures in
    rw (c.in_ok-starts.ensures.items_if_clones_equal (λ x y e. e), c.in_ok-targets.ensures.items_if_clones_equal (λ x y e. e))
    (packed-part kinds nodes starts targets made (omega (arith, c.if-kinds-gt-MOST_NODES.false)) rows.count
    (record { order = rows.cut.order; within = rows.cut.within }) (omega (arith, c.if-targets-gt-MOST_EDGES.false))
    (λ x y l. row-ends (length kinds) starts targets rows.ends x y ((rows-lead starts targets (length nodes) (rows.count ∙ sym made.count) x y).0 l)))

pub returns-clause-made : goal.returns-clause-made
returns-clause-made c =
    let kinds = c.args.kinds.now in
    let nodes = c.in_ok-nodes.nodes.items in
    let starts = c.args.starts.now in
    let targets = c.args.targets.now in
    let rows = c.if-not-are_rows.ensures in
    let made : HasNodes kinds (length kinds) nodes = c.in_ok-nodes.ensures in record {
      bridges = nodes-bridge kinds c.of_rows.result.nodes (subst (λ ns. HasNodes kinds (length kinds) ns) (sym c.of_rows.ensures.nodes) made);
      leads = λ x y. rw (c.of_rows.ensures.edges, c.in_ok-starts.ensures.items_if_clones_equal (λ x y e. e), c.in_ok-targets.ensures.items_if_clones_equal (λ x y e. e))
          (rows-lead starts targets (length nodes) (rows.count ∙ sym made.count) x y);
    }
