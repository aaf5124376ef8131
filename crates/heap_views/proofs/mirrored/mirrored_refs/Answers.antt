-- What the pass finds of the graph is so of the dead part.
use Rattle.std.proofs.lemmas.Result.{IfOk-weaker}
use Rattle.heap_views.proofs.Carrying.{contraction-dead}
use Rattle.heap_views.proofs.mirrored.mirrored_refs.Goals as goal

pub returns-in-Ok : goal.returns-in-Ok
returns-in-Ok c =
    let s = c.args.joint.now.graph.managed in
    let v = c.in-Ok.comps in
    let w = c.in-Ok.ensures in
    IfOk-weaker c.carried_refs.result _ _ (λ r e. record {
      comps = v.comps;
      heavy = w.0;
      xrefs = v.pairs;
      contraction = contraction-dead s c.in_ok-graph.graph v.comps w.0 v.pairs c.in_ok-graph.ensures.bridges c.in_ok-graph.ensures.edges w.2;
      carried = e;
    }) c.carried_refs.ensures
