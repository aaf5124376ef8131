-- One edge more in each turn.
use Rattle.std.proofs.Common.{◌≡◌, ◌∙◌, ◌-◌, List, [], ◌∷◌, ◌++◌, length, map, take, sym, ap, subst, arith}
use Rattle.std.proofs.lemmas.List.{map-append}
use Rattle.joint_machine.specs.Components as exact
use Rattle.joint_machine.specs.Components.{mirror_edges}
use Rattle.joint_machine.specs.Control.{carried_edges, carried_end}
use Rattle.xref_list.specs.declared.components.End.{End as Answered}
use Rattle.xref_list.specs.Ends.{end_of}
use Rattle.heap_views.specs.Mirrored.{end_as, ends_as}
use Rattle.heap_views.specs.declared.mirrored.MirrorEnd.{MirrorEnd}
use Rattle.heap_views.proofs.Carrying.{edge-at, edges-next}
use Rattle.heap_views.proofs.mirrored.carried_refs.Goals as goal

pub loop-i-preserved : goal.loop-i-preserved
loop-i-preserved c =
    let s = c.args.joint.now.graph.managed in
    let issued = c.args.joint.now.graph.peers.issued in
    let v = c.args.comps.now in
    let edges = mirror_edges v.comps v.pairs in
    let e = edge-at (length v.comps) edges c.loop-i.i c.mirror_edge-from.result c.mirror_edge-from.ensures in
    let count : c.len.result - c.heavy.result ≡ length v.comps = omega (arith, c.len.ensures.count, c.heavy.ensures) in
    let from : end_as c.carried.result ≡ carried_end s issued e.0.0 =
    c.carried.ensures e.0.0 (subst (λ n. c.mirror_edge-from.result.0 ≡ end_of n e.0.0) (sym count) (ap (λ (p : Answered × Answered). p.0) (sym e.2))) in
    let to : end_as c.carried-in-loop-i.result ≡ carried_end s issued e.0.1 =
    c.carried-in-loop-i.ensures e.0.1 (subst (λ n. c.mirror_edge-from.result.1 ≡ end_of n e.0.1) (sym count) (ap (λ (p : Answered × Answered). p.1) (sym e.2))) in
    let old : List (MirrorEnd × MirrorEnd) = c.loop-i.refs.items in
    let so_far : List (exact.End × exact.End) = carried_edges s issued (take c.loop-i.i edges) in
    ap (map ends_as) c.in_ok-push.ensures.items
    ∙ (map-append ends_as old ((c.carried.result, c.carried-in-loop-i.result) ∷ [])
    ∙ (ap (λ (l : List (exact.End × exact.End)). l ++ (end_as c.carried.result, end_as c.carried-in-loop-i.result) ∷ []) c.loop-i.invariant
    ∙ (ap (λ (x : exact.End). so_far ++ (x, end_as c.carried-in-loop-i.result) ∷ []) from
    ∙ (ap (λ (y : exact.End). so_far ++ (carried_end s issued e.0.0, y) ∷ []) to
    ∙ sym (edges-next s issued edges c.loop-i.i e.0 e.1)))))
