-- Each turn asks one peer more.
use Rattle.std.proofs.Common.{[], ◌∷◌, arith}
use Rattle.std.proofs.lemmas.List.{map-append}
use Rattle.joint_machine.specs.declared.names.PNum.{PNum}
use Rattle.joint_machine.specs.Histories.{peer_numbers}
use Rattle.joint_machine.proofs.Deciding.{test-true, test-false}
use Rattle.joint_machine.proofs.Gathering.{Gathered-push, Gathered-skip}
use Rattle.joint_marking.specs.Nodes.{IsUnmarkedPeer}
use Rattle.joint_marking.proofs.Gathering.{Gathered-end}
use Rattle.joint_marking.proofs.found.unmarked_peers.Goals as goal
use Rattle.joint_marking.proofs.found.unmarked_peers.Goals.{then-is_unmarked+in_ok-push, else-is_unmarked}

pub loop-p-preserved : goal.loop-p-preserved
loop-p-preserved g c =
    let wanted = IsUnmarkedPeer (g.G.JointWalked.graph c.args.g.now) c.args.marks.now in
    let p = c.loop-p.p in
    elim c.if-is_unmarked.branch [
      | then-is_unmarked+in_ok-push w ↦
          let n : PNum = record { 0 = p } in
          rw (w.found-is, w.in_ok-push.ensures.items, map-append (λ k. k.0) c.loop-p.found.items (n ∷ []))
          (Gathered-push wanted p (peer_numbers c.loop-p.found.items) c.loop-p.invariant (test-true (wanted p) _ c.is_unmarked.ensures w.if-is_unmarked.true))
      | else-is_unmarked w ↦ rw w.found-is (Gathered-skip wanted p (peer_numbers c.loop-p.found.items) c.loop-p.invariant (test-false (wanted p) _ c.is_unmarked.ensures w.if-is_unmarked.false))
    ]

pub returns : goal.returns
returns g c = Gathered-end (IsUnmarkedPeer (g.G.JointWalked.graph c.args.g.now) c.args.marks.now) c.loop-p.p (peer_numbers c.loop-p.found.items) c.loop-p.invariant
    (λ p w. (let v = w.0 in omega (arith, v.made.1, c.loop-p-test.false, c.peers-p-end.ensures.made)))
