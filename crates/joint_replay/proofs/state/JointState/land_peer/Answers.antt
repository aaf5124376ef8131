-- The peers alone move, and the flags with them.
use Rattle.std.proofs.Common.{subst}
use Rattle.joint_machine.specs.Joint.{Joint}
use Rattle.joint_machine.specs.Peers.{landed}
use Rattle.joint_machine.specs.Run.{on_peers}
use Rattle.joint_replay.specs.Answers.{answers_as}
use Rattle.joint_replay.specs.Judging.{Decides, Gives}
use Rattle.joint_replay.proofs.Growing.{Grows-landed, issued-landed, on-peers-same, stored-then, with_peers}
use Rattle.joint_replay.proofs.state.JointState.land_peer.Goals as goal

pub returns : goal.returns
returns c =
    let s = c.self.inside in
    let i : Joint = record { graph = record { managed = s.managed; peers = s.peers; removed = s.removed.items }; answers = answers_as s.answers.items; marking = s.marking; markings = s.markings } in
    let reply = c.args.reply.now in
    subst (λ (z : Joint). Decides (Gives (on_peers z (landed z.graph.peers c.args.x c.args.target)) reply) c.land.result z (with_peers i c.land.new.self s.removed.items)) c.self.view_is
    (on-peers-same i (landed i.graph.peers c.args.x c.args.target) reply c.land.new.self c.land.result (issued-landed i.graph.peers c.args.x c.args.target) c.land.ensures)

pub invariant_of-self : goal.invariant_of-self
invariant_of-self c =
    let s = c.self.inside in
    stored-then s.peers c.land.new.self s.marking (landed s.peers c.args.x c.args.target) c.args.reply.now c.land.result (Grows-landed s.peers c.args.x c.args.target) c.land.ensures c.self.invariant
