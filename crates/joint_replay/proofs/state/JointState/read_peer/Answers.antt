-- The peers alone move, and the flags with them.
use Rattle.std.proofs.Common.{subst}
use Rattle.joint_machine.specs.Joint.{Joint}
use Rattle.joint_machine.specs.Peers.{peer_read}
use Rattle.joint_machine.specs.Run.{on_peers}
use Rattle.joint_replay.specs.Answers.{answers_as}
use Rattle.joint_replay.specs.Judging.{Decides, Gives}
use Rattle.joint_replay.proofs.Growing.{Grows-peer_read, issued-peer_read, on-peers-same, stored-then, with_peers}
use Rattle.joint_replay.proofs.state.JointState.read_peer.Goals as goal

pub returns : goal.returns
returns c =
    let s = c.self.inside in
    let i : Joint = record { graph = record { managed = s.managed; peers = s.peers; removed = s.removed.items }; answers = answers_as s.answers.items; marking = s.marking; markings = s.markings } in
    let reply = c.args.reply.now in
    subst (λ (z : Joint). Decides (Gives (on_peers z (peer_read z.graph.peers c.args.v c.args.target)) reply) c.read.result z (with_peers i c.read.new.self s.removed.items)) c.self.view_is
    (on-peers-same i (peer_read i.graph.peers c.args.v c.args.target) reply c.read.new.self c.read.result (issued-peer_read i.graph.peers c.args.v c.args.target) c.read.ensures)

pub invariant_of-self : goal.invariant_of-self
invariant_of-self c =
    let s = c.self.inside in
    stored-then s.peers c.read.new.self s.marking (peer_read s.peers c.args.v c.args.target) c.args.reply.now c.read.result
    (Grows-peer_read s.peers c.args.v c.args.target) c.read.ensures c.self.invariant
