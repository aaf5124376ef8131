-- The peers alone move, and the flags with them.
use Rattle.std.proofs.Common.{◌≡◌, subst}
use Rattle.std.specs.Prelude.{IfOk, OnErr}
use Rattle.joint_machine.specs.Joint.{Joint}
use Rattle.joint_machine.specs.Peers.{pair_made}
use Rattle.joint_machine.specs.Run.{on_peers}
use Rattle.joint_replay.specs.Answers.{answers_as}
use Rattle.joint_replay.specs.Judging.{Decides, Gives}
use Rattle.joint_replay.proofs.Growing.{Grows-pair_made, err-peers, on-peers, stored-after, with_peers}
use Rattle.std.proofs.lemmas.Result.{IfOk-weaker}
use Rattle.joint_replay.proofs.state.JointState.make.Goals as goal

pub returns-clause-ok : goal.returns-clause-ok
returns-clause-ok c =
    let s = c.self.inside in
    let i : Joint = record { graph = record { managed = s.managed; peers = s.peers; removed = s.removed.items }; answers = answers_as s.answers.items; marking = s.marking; markings = s.markings } in
    let reply = c.args.reply.now in
    subst (λ (z : Joint). IfOk c.make_pair.result (λ d. Decides (Gives (on_peers z (pair_made z.graph.peers c.args.sort c.args.fields)) reply) d z
    (with_peers i c.make_pair.new.self c.make_pair.new.removed.items))) c.self.view_is
    (IfOk-weaker c.make_pair.result _ _ (λ d w. on-peers i (pair_made i.graph.peers c.args.sort c.args.fields) reply c.make_pair.new.self c.make_pair.new.removed.items d c.make_pair.ensures.flags w)
    c.make_pair.ensures.ok)

pub returns-clause-err : goal.returns-clause-err
returns-clause-err c =
    let s = c.self.inside in
    let i : Joint = record { graph = record { managed = s.managed; peers = s.peers; removed = s.removed.items }; answers = answers_as s.answers.items; marking = s.marking; markings = s.markings } in
    subst (λ (z : Joint). OnErr c.make_pair.result (with_peers i c.make_pair.new.self c.make_pair.new.removed.items ≡ z)) c.self.view_is
    (err-peers i c.make_pair.new.self c.make_pair.new.removed.items c.make_pair.result c.make_pair.ensures.flags c.make_pair.ensures.err)

pub invariant_of-self : goal.invariant_of-self
invariant_of-self c =
    let s = c.self.inside in
    let a = pair_made s.peers c.args.sort c.args.fields in
    stored-after s.peers c.make_pair.new.self s.marking a c.args.reply.now c.make_pair.result
    (Grows-pair_made s.peers c.args.sort c.args.fields) c.make_pair.ensures.ok c.make_pair.ensures.err c.self.invariant
