-- The peers alone move.
use Rattle.std.proofs.Common.{arith, refl, subst}
use Rattle.joint_machine.specs.Joint.{Joint}
use Rattle.joint_machine.specs.Peers.{on_peer_heap, peer_name}
use Rattle.joint_machine.specs.Run.{on_peers, thread_number}
use Rattle.joint_replay.specs.Answers.{answers_as}
use Rattle.joint_replay.specs.Judging.{Decides, Gives}
use Rattle.joint_replay.proofs.Growing.{on-peers-same, stored-kept, with_peers}
use Rattle.joint_replay.proofs.state.JointState.plain_peer.Goals as goal
use Rattle.joint_machine.specs.Heaps.{heap_line}

pub returns : goal.returns
returns c =
    let s = c.self.inside in
    let i : Joint = record { graph = record { managed = s.managed; peers = s.peers; removed = s.removed.items }; answers = answers_as s.answers.items; marking = s.marking; markings = s.markings } in
    let t = thread_number c.args.caller in
    let act = c.args.act.now in
    subst (λ (z : Joint). Decides (Gives (on_peers z (on_peer_heap z.graph.peers (heap_line peer_name z.graph.peers.heap t act))) c.args.reply.now) c.plain.result z
    (with_peers i c.plain.new.self s.removed.items)) c.self.view_is
    (on-peers-same i (on_peer_heap i.graph.peers (heap_line peer_name i.graph.peers.heap t act)) c.args.reply.now c.plain.new.self c.plain.result refl c.plain.ensures.verdict)

pub invariant_of-self : goal.invariant_of-self
invariant_of-self c = stored-kept c.self.inside.peers c.plain.new.self c.self.inside.marking (record { made = omega (arith, c.plain.ensures.made); freed = c.plain.ensures.freed }) c.self.invariant
