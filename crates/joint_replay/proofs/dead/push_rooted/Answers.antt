-- Each turn asks one handle more.
use Rattle.std.proofs.Common.{arith, refl}
use Rattle.joint_replay.specs.Graphs.{IsRooted}
use Rattle.joint_marking.proofs.Gaining.{gains-none, gains-push, gains-skip, gains-all}
use Rattle.joint_replay.proofs.Gaining.{rooted-zero, rooted-below}
use Rattle.joint_replay.proofs.dead.push_rooted.Goals as goal
use Rattle.joint_replay.proofs.dead.push_rooted.Goals.{in-Some+in_ok-push, in_default}

pub loop-h-init : goal.loop-h-init
loop-h-init c = gains-none (IsRooted c.args.peers.now c.args.removed.now c.args.owned.now) 1 c.args.roots.now.items (rooted-zero c.args.peers.now c.args.removed.now c.args.owned.now)

pub loop-h-preserved : goal.loop-h-preserved
loop-h-preserved c =
    let brings = IsRooted c.args.peers.now c.args.removed.now c.args.owned.now in
    let h = c.loop-h.h in
    let old = c.args.roots.now.items in
    let now = c.loop-h.roots.items in
    elim c.match-rooted_peer.branch [
      | in-Some+in_ok-push w ↦ rw (w.roots-is, w.in_ok-push.ensures.items)
          (gains-push brings h w.in-Some.p old now ((w.in-Some.ensures w.in-Some.p).0 refl) (λ k b. (let e = (w.in-Some.ensures k).1 b in cc)) c.loop-h.invariant)
      | in_default w ↦ rw w.roots-is (gains-skip brings h old now (λ k b. (let e = (w.in_default.ensures k).1 b in cc)) c.loop-h.invariant)
    ]

pub returns : goal.returns
returns c = gains-all (IsRooted c.args.peers.now c.args.removed.now c.args.owned.now) c.loop-h.h c.args.roots.now.items c.loop-h.roots.items
    (λ i k l. rooted-below c.args.peers.now c.args.removed.now c.args.owned.now i k c.loop-h.h (omega (arith, c.loop-h-test.false, c.handles.ensures)) l) c.loop-h.invariant
