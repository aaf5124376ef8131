-- A graph has one contraction.
use Rattle.std.proofs.Common.{length, sym, ◌∙◌, ap}
use Rattle.bridge_graph.specs.Parts.{IsBridgeNode, NodeLeads}
use Rattle.known_laws.proofs.OneContraction.{one_contraction}
use Rattle.pass_tests.proofs.both.run_both.Goals as goal

pub returns : goal.returns
returns c =
    let f = c.in_ok-fast.ensures in
    let s = c.in_ok-second.ensures in
    let one = one_contraction (IsBridgeNode c.args.graph.now.nodes)
    (NodeLeads c.args.graph.now.edges) c.in_ok-fast.fast.comps c.in_ok-second.second.comps f.0 s.0 c.in_ok-fast.fast.pairs c.in_ok-second.second.pairs f.2 s.2 in
    (one.0, sym f.1 ∙ ap length one.1 ∙ s.1, one.2)
