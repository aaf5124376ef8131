-- Each turn adds the edge of one place, or the place is empty.
use Rattle.std.proofs.Common.{ℕ, ◌+◌, ◌<◌, length, arith}
use Rattle.joint_machine.specs.Heaps.{IsLive, fields_of}
use Rattle.joint_marking.specs.Nodes.{objects_in}
use Rattle.joint_marking.proofs.Edges.{Places-push, Places-skip, Places-all}
use Rattle.joint_marking.proofs.rows.add_peer.Goals as goal
use Rattle.joint_marking.proofs.rows.add_peer.Goals.{in-Some+in_ok-add, in_default}

pub loop-i-preserved : goal.loop-i-preserved
loop-i-preserved g c =
    let both = g.G.JointWalked.graph c.args.g.now in
    let h = both.peers.heap in
    let fields = fields_of h c.args.p.0 in
    let node : ℕ → ℕ = λ q. objects_in both + q in
    let within : c.loop-i.i < length fields = omega (arith, c.loop-i-test.true, c.peer_fields-i-end.ensures) in
    elim c.match-peer_field.branch [
      | in-Some+in_ok-add w ↦ rw w.rows-is (Places-push (IsLive h) node c.args.p.0 fields c.loop-i.i w.in-Some.q.0 _ _ _ within w.in-Some.ensures.value w.in-Some.ensures.live c.loop-i.invariant
          (rw (w.peer_node.ensures.node, w.peer_node-in-Some.ensures.node) at w.in_ok-add.ensures.adds))
      | in_default w ↦ rw w.rows-is (Places-skip (IsLive h) node c.args.p.0 fields c.loop-i.i _ _ within w.in_default.ensures.value c.loop-i.invariant)
    ]

pub returns : goal.returns
returns g c =
    let both = g.G.JointWalked.graph c.args.g.now in
    Places-all both.peers.heap (λ q. objects_in both + q) c.args.p.0 c.loop-i.i _ _ c.requires.live (omega (arith, c.loop-i-test.false, c.peer_fields-i-end.ensures)) c.loop-i.invariant
