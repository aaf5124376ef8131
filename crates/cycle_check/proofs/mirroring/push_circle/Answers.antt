use Rattle.std.proofs.Common.{◌-◌, get_or, map, ap, ◌∙◌}
use Rattle.std.proofs.lemmas.List.{map_push}
use Rattle.bridge_graph.specs.declared.packing.Link.{Link}
use Rattle.array_graphs.specs.Graphs.{pair_of}
use Rattle.xref_list.proofs.Comps.{circle-next}
use Rattle.cycle_check.proofs.mirroring.push_circle.Goals as goal

pub loop-i-preserved : goal.loop-i-preserved
loop-i-preserved c =
    let row = c.args.row.now in
    let i = c.loop-i.i in
    let e : Link = record { from = get_or row (i - 1) 0; to = get_or row i 0 } in
    circle-next row (map pair_of c.loop-i.edges.items) _ _ i c.loop-i-test.true c.loop-i.invariant
    (ap (map pair_of) c.in_ok-push.ensures.items ∙ map_push pair_of c.loop-i.edges.items e)
