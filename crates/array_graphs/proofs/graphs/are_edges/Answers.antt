use Rattle.std.proofs.Common.{◌<◌, take, get_or, subst, sym, arith}
use Rattle.std.proofs.lemmas.List.{take_all, take_more}
use Rattle.std.proofs.lemmas.List.Elements.{All-push}
use Rattle.bridge_graph.specs.declared.packing.Link.{Link}
use Rattle.array_graphs.specs.Graphs.{AreEdges}
use Rattle.array_graphs.proofs.graphs.are_edges.Goals as goal

pub loop-e-preserved : goal.loop-e-preserved
loop-e-preserved c =
    let edges = c.args.edges.now in
    let i = c.loop-e.e-index in
    let e : Link = record { from = 0; to = 0 } in
    subst (AreEdges c.args.nodes) (sym (take_more edges i e c.loop-e-test.true))
    (All-push (λ (l : Link). (l.from < c.args.nodes) × (l.to < c.args.nodes)) (take i edges)
    (get_or edges i e) c.loop-e.invariant (omega (arith, c.if-e-nodes.false), omega (arith, c.if-e-nodes-2.false)))

pub returns : goal.returns
returns c = subst (AreEdges c.args.nodes) (take_all c.loop-e.e-index c.args.edges.now c.loop-e-test.false) c.loop-e.invariant
