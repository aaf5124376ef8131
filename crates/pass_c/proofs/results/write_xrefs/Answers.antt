use Rattle.std.proofs.Common.{[], ◌∷◌, ◌++◌, map, take, sym, ap, ◌∙◌, arith}
use Rattle.std.proofs.lemmas.List.{map-append, take_more_set}
use Rattle.joint_machine.proofs.Members.{take-next}
use Rattle.bridge_graph.specs.declared.packing.Link.{Link}
use Rattle.pass_c.proofs.results.write_xrefs.Goals as goal
use Rattle.array_graphs.specs.Graphs.{pair_of}

pub loop-i-preserved : goal.loop-i-preserved
loop-i-preserved c =
    let pairs = c.args.found.now.pairs in
    let q : Link = record { from = c.xref-from.result.0; to = c.xref-from.result.1 } in
    ap (map pair_of) (take_more_set c.loop-i.xrefs c.loop-i.i q (omega arith))
    ∙ (map-append pair_of (take c.loop-i.i c.loop-i.xrefs) (q ∷ [])
    ∙ (ap (λ z. z ++ pair_of q ∷ []) c.loop-i.invariant ∙ sym (take-next pairs c.loop-i.i c.xref-from.result c.xref-from.ensures)))
