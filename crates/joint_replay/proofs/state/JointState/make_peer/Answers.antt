-- The peers alone move, and the flags with them.
use Rattle.std.proofs.Common.{◌≡◌, subst}
use Rattle.std.specs.Prelude.{IfOk, OnErr}
use Rattle.joint_machine.specs.Joint.{Joint}
use Rattle.joint_machine.specs.Peers.{peer_made}
use Rattle.joint_machine.specs.Run.{on_peers}
use Rattle.joint_replay.specs.Answers.{answers_as}
use Rattle.joint_replay.specs.Judging.{Decides, Gives}
use Rattle.joint_replay.proofs.Growing.{Grows-peer_made, err-peers-same, issued-peer_made, on-peers-same, stored-after, with_peers}
use Rattle.std.proofs.lemmas.Result.{IfOk-weaker}
use Rattle.joint_replay.proofs.state.JointState.make_peer.Goals as goal

pub returns-clause-ok : goal.returns-clause-ok
returns-clause-ok c =
    let s = c.self.inside in
    let i : Joint = record { graph = record { managed = s.managed; peers = s.peers; removed = s.removed.items }; answers = answers_as s.answers.items; marking = s.marking; markings = s.markings } in
    let reply = c.args.reply.now in
    subst (λ (z : Joint). IfOk c.make.result (λ d. Decides (Gives (on_peers z (peer_made z.graph.peers c.args.v c.args.fields)) reply) d z (with_peers i c.make.new.self s.removed.items)))
    c.self.view_is
    (IfOk-weaker c.make.result _ _ (λ d w. on-peers-same i (peer_made i.graph.peers c.args.v c.args.fields) reply c.make.new.self d (issued-peer_made i.graph.peers c.args.v c.args.fields) w)
    c.make.ensures.ok)

pub returns-clause-err : goal.returns-clause-err
returns-clause-err c =
    let s = c.self.inside in
    let i : Joint = record { graph = record { managed = s.managed; peers = s.peers; removed = s.removed.items }; answers = answers_as s.answers.items; marking = s.marking; markings = s.markings } in
    subst (λ (z : Joint). OnErr c.make.result (with_peers i c.make.new.self s.removed.items ≡ z)) c.self.view_is (err-peers-same i c.make.new.self c.make.result c.make.ensures.err)

pub invariant_of-self : goal.invariant_of-self
invariant_of-self c =
    let s = c.self.inside in
    let a = peer_made s.peers c.args.v c.args.fields in
    stored-after s.peers c.make.new.self s.marking a c.args.reply.now c.make.result (Grows-peer_made s.peers c.args.v c.args.fields) c.make.ensures.ok c.make.ensures.err c.self.invariant
