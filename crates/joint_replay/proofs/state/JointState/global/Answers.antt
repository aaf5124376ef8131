-- The peers alone move, and the flags with them.
use Rattle.std.proofs.Common.{◌≡◌, subst}
use Rattle.std.specs.Prelude.{IfOk, OnErr}
use Rattle.joint_machine.specs.Joint.{Joint}
use Rattle.joint_machine.specs.Peers.{globalised}
use Rattle.joint_machine.specs.Run.{on_peers}
use Rattle.joint_replay.specs.Answers.{answers_as}
use Rattle.joint_replay.specs.Judging.{Decides, Gives}
use Rattle.joint_replay.specs.Plain.{strength_as}
use Rattle.joint_replay.proofs.Growing.{Grows-globalised, err-peers, on-peers, stored-after, with_peers}
use Rattle.std.proofs.lemmas.Result.{IfOk-weaker}
use Rattle.joint_replay.proofs.state.JointState.global.Goals as goal

pub returns-clause-ok : goal.returns-clause-ok
returns-clause-ok c =
    let s = c.self.inside in
    let i : Joint = record { graph = record { managed = s.managed; peers = s.peers; removed = s.removed.items }; answers = answers_as s.answers.items; marking = s.marking; markings = s.markings } in
    let reply = c.args.reply.now in
    subst (λ (z : Joint). IfOk c.globalise.result (λ d. Decides (Gives (on_peers z (globalised z.graph.peers c.args.g c.args.v (strength_as c.args.strength))) reply) d z
    (with_peers i c.globalise.new.self c.globalise.new.removed.items))) c.self.view_is
    (IfOk-weaker c.globalise.result _ _ (λ d w. on-peers i (globalised i.graph.peers c.args.g c.args.v (strength_as c.args.strength))
    reply c.globalise.new.self c.globalise.new.removed.items d c.globalise.ensures.flags w) c.globalise.ensures.ok)

pub returns-clause-err : goal.returns-clause-err
returns-clause-err c =
    let s = c.self.inside in
    let i : Joint = record { graph = record { managed = s.managed; peers = s.peers; removed = s.removed.items }; answers = answers_as s.answers.items; marking = s.marking; markings = s.markings } in
    subst (λ (z : Joint). OnErr c.globalise.result (with_peers i c.globalise.new.self c.globalise.new.removed.items ≡ z)) c.self.view_is
    (err-peers i c.globalise.new.self c.globalise.new.removed.items c.globalise.result c.globalise.ensures.flags c.globalise.ensures.err)

pub invariant_of-self : goal.invariant_of-self
invariant_of-self c =
    let s = c.self.inside in
    let a = globalised s.peers c.args.g c.args.v (strength_as c.args.strength) in
    stored-after s.peers c.globalise.new.self s.marking a c.args.reply.now c.globalise.result
    (Grows-globalised s.peers c.args.g c.args.v (strength_as c.args.strength)) c.globalise.ensures.ok c.globalise.ensures.err c.self.invariant
