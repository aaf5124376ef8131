-- The ends of each mirror edge are bridge nodes and temporaries, and there is room for their reference.
use Rattle.std.proofs.Common.{◌≡◌, ◌≤◌, ◌-◌, length, sym, ap, subst, arith}
use Rattle.joint_machine.specs.Components.{mirror_edges}
use Rattle.joint_machine.proofs.Members.{Contains-at}
use Rattle.peer_heap.specs.Sides.{PeerModel}
use Rattle.xref_list.specs.declared.components.End.{End as Answered}
use Rattle.xref_list.specs.Ends.{end_of}
use Rattle.peer_heap.specs.Mirroring.{end_of as ref_end}
use Rattle.peer_mirror.specs.Carried.{IsCarried}
use Rattle.peer_mirror.proofs.Edges.{edge-at, edge-ends, end-more, pushed-next}
use Rattle.peer_mirror.proofs.installing.push_edges.Goals as goal

pub from_end-from-requires-clause-end : goal.from_end-from-requires-clause-end
from_end-from-requires-clause-end c =
    let v = c.args.comps.now in
    let nodes = c.args.graph.now.nodes in
    let e = edge-at (length v.comps) (mirror_edges v.comps v.pairs) c.loop-i.i c.mirror_edge-edge.result c.mirror_edge-edge.ensures in
    let ends = edge-ends nodes v.comps v.heavy v.pairs c.len.ensures.listing c.requires.members e.0.0 e.0.1 (Contains-at (mirror_edges v.comps v.pairs) c.loop-i.i e.0 e.1) in
    let count : c.len.result - c.heavy.result ≡ length v.comps = omega (arith, c.len.ensures.count, c.heavy.ensures) in
    let temps : v.heavy ≤ c.loop-i.side.reserve.temps = omega (arith, c.requires.temps, ap (λ (z : PeerModel). z.reserve.temps) c.loop-i.invariant.pushed) in (
      e.0.0,
      subst (λ n. c.mirror_edge-edge.result.0 ≡ end_of n e.0.0) (sym count) (ap (λ (p : Answered × Answered). p.0) (sym e.2)),
      end-more nodes v.heavy c.loop-i.side.reserve.temps e.0.0 temps ends.0,
    )

pub ref_end-to-requires-clause-end : goal.ref_end-to-requires-clause-end
ref_end-to-requires-clause-end c =
    let v = c.args.comps.now in
    let nodes = c.args.graph.now.nodes in
    let e = edge-at (length v.comps) (mirror_edges v.comps v.pairs) c.loop-i.i c.mirror_edge-edge.result c.mirror_edge-edge.ensures in
    let ends = edge-ends nodes v.comps v.heavy v.pairs c.len.ensures.listing c.requires.members e.0.0 e.0.1 (Contains-at (mirror_edges v.comps v.pairs) c.loop-i.i e.0 e.1) in
    let count : c.len.result - c.heavy.result ≡ length v.comps = omega (arith, c.len.ensures.count, c.heavy.ensures) in
    let temps : v.heavy ≤ c.loop-i.side.reserve.temps = omega (arith, c.requires.temps, ap (λ (z : PeerModel). z.reserve.temps) c.loop-i.invariant.pushed) in (
      e.0.1,
      subst (λ n. c.mirror_edge-edge.result.1 ≡ end_of n e.0.1) (sym count) (ap (λ (p : Answered × Answered). p.1) (sym e.2)),
      end-more nodes v.heavy c.loop-i.side.reserve.temps e.0.1 temps ends.1,
    )

pub loop-i-preserved : goal.loop-i-preserved
loop-i-preserved c =
    let v = c.args.comps.now in
    let e = edge-at (length v.comps) (mirror_edges v.comps v.pairs) c.loop-i.i c.mirror_edge-edge.result c.mirror_edge-edge.ensures in
    let count : c.len.result - c.heavy.result ≡ length v.comps = omega (arith, c.len.ensures.count, c.heavy.ensures) in
    let from = c.from_end-from.ensures.carried e.0.0 (subst (λ n. c.mirror_edge-edge.result.0 ≡ end_of n e.0.0) (sym count) (ap (λ (p : Answered × Answered). p.0) (sym e.2))) in
    let to = c.ref_end-to.ensures.carried e.0.1 (subst (λ n. c.mirror_edge-edge.result.1 ≡ end_of n e.0.1) (sym count) (ap (λ (p : Answered × Answered). p.1) (sym e.2))) in
    let pushed = pushed-next c.args.side.now c.loop-i.side c.push_ref.new.self c.args.graph.now.nodes
    (mirror_edges v.comps v.pairs) c.loop-i.i e.0 _ _ e.1 c.loop-i.invariant.pushed from to c.push_ref.ensures in
    record {
      pushed = pushed;
      last = subst (λ (z : PeerModel). IsCarried z c.args.graph.now.nodes (c.len.result - c.heavy.result) c.mirror_edge-edge.result.0 (ref_end c.from_end-from.result))
          (sym c.push_ref.ensures) (c.from_end-from.ensures.carried, c.from_end-from.ensures.stands);
    }
