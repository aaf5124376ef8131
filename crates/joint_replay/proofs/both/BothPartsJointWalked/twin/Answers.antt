-- An object without a handle, or whose handle is on a freed peer, has no twin.
use Rattle.std.proofs.Common.{sym}
use Rattle.joint_machine.specs.Heaps.{IsLive}
use Rattle.joint_machine.proofs.Deciding.{test-false}
use Rattle.joint_marking.proofs.Twins.{twin-none, twin-freed}
use Rattle.joint_replay.specs.Graphs.{clean_graph, parts_graph}
use Rattle.joint_replay.proofs.Finding.{cleaned-live, live-cleaned}
use Rattle.joint_replay.proofs.Twinning.{twin-live, twin-unissued}
use Rattle.joint_replay.proofs.both.BothPartsJointWalked.twin.Goals as goal

pub returns-in_default : goal.returns-in_default
returns-in_default c = twin-none (clean_graph (parts_graph c.args.self.now.managed.now c.args.self.now.peers.now c.args.self.now.removed.now)) c.args.x.0 (sym c.in_default.ensures)

pub returns-else-is_live : goal.returns-else-is_live
returns-else-is_live c =
    let s = c.args.self.now in
    let h = s.peers.now.heap in
    let p = c.in-Some-peer_of.p in
    twin-freed (clean_graph (parts_graph s.managed.now s.peers.now s.removed.now)) c.args.x.0 c.in-Some.h p (sym c.in-Some.ensures) (sym c.in-Some-peer_of.ensures)
    (λ l. test-false (IsLive h p) c.is_live.result (rw c.heap.ensures at c.is_live.ensures.live) c.if-is_live.false (cleaned-live h p l))

pub returns-in_default-peer_of : goal.returns-in_default-peer_of
returns-in_default-peer_of c =
    let s = c.args.self.now in
    twin-unissued (clean_graph (parts_graph s.managed.now s.peers.now s.removed.now)) c.args.x.0 c.in-Some.h (sym c.in-Some.ensures) (sym c.in_default-peer_of.ensures)

pub returns-then-is_live : goal.returns-then-is_live
returns-then-is_live c =
    let s = c.args.self.now in
    let h = s.peers.now.heap in
    let p = c.in-Some-peer_of.p in
    twin-live (clean_graph (parts_graph s.managed.now s.peers.now s.removed.now)) c.args.x.0 c.in-Some.h p c.requires.made (sym c.in-Some.ensures) (sym c.in-Some-peer_of.ensures)
    (live-cleaned h p ((rw c.heap.ensures at c.is_live.ensures.live).0 c.if-is_live.true))
