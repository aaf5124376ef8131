-- The peers' heap alone moves.
use Rattle.std.proofs.Common.{map, subst}
use Rattle.joint_machine.specs.Heaps.{Heap, heap_line}
use Rattle.joint_machine.specs.Peers.{Peers, on_peer_heap, peer_name}
use Rattle.joint_machine.specs.Run.{thread_number}
use Rattle.joint_replay.specs.Judging.{Decides, Gives}
use Rattle.joint_replay.specs.Plain.{issued_as}
use Rattle.joint_replay.proofs.Lifting.{Gives-on}
use Rattle.joint_replay.proofs.peers.PeerPart.plain.Goals as goal

pub returns-clause-verdict : goal.returns-clause-verdict
returns-clause-verdict c =
    let s = c.self.inside in
    let i : Peers = record { heap = s.heap; sorts = s.sorts.items; names = s.names; issued = map issued_as s.handles.items; made = s.made } in
    let t = thread_number c.args.caller in
    let act = c.args.act.now in
    subst (λ (z : Peers). Decides (Gives (on_peer_heap z (heap_line peer_name z.heap t act)) c.args.reply.now) c.line.result z (record i { heap = c.line.new.self })) c.self.view_is
    (Gives-on (λ (h : Heap). record i { heap = h }) (heap_line peer_name i.heap t act) c.args.reply.now c.line.result i.heap c.line.new.self c.line.ensures.verdict)
