-- Each turn adds the edges of one peer, which has none if it isn't live.
use Rattle.std.proofs.Common.{arith}
use Rattle.joint_machine.specs.Heaps.{IsLive}
use Rattle.joint_machine.proofs.Deciding.{test-false}
use Rattle.joint_marking.specs.Nodes.{PeerEdge}
use Rattle.joint_marking.proofs.Edges.{Brought-push, Brought-skip, Brought-all}
use Rattle.joint_marking.proofs.rows.add_peers.Goals as goal
use Rattle.joint_marking.proofs.rows.add_peers.Goals.{then-is_live_peer+in_ok-add_peer, else-is_live_peer}

pub loop-p-preserved : goal.loop-p-preserved
loop-p-preserved g c =
    let both = g.G.JointWalked.graph c.args.g.now in
    let p = c.loop-p.p in
    elim c.if-is_live_peer.branch [
      | then-is_live_peer+in_ok-add_peer w ↦ rw w.rows-is (Brought-push (PeerEdge both) p _ _ _ c.loop-p.invariant w.in_ok-add_peer.ensures)
      | else-is_live_peer w ↦ rw w.rows-is (Brought-skip (PeerEdge both) p _ _
          (λ k j e. test-false (IsLive both.peers.heap p) _ c.is_live_peer.ensures w.if-is_live_peer.false e.field.live) c.loop-p.invariant)
    ]

pub returns : goal.returns
returns g c =
    let both = g.G.JointWalked.graph c.args.g.now in
    Brought-all (PeerEdge both) c.loop-p.p _ _ (λ p k j e. (let v = e.field.live in omega (arith, v.made.1, c.loop-p-test.false, c.peers-p-end.ensures.made))) c.loop-p.invariant
