-- The peers alone move, and the flags with them.
use Rattle.std.proofs.Common.{◌≡◌, subst}
use Rattle.std.specs.Prelude.{IfOk, OnErr}
use Rattle.joint_machine.specs.Joint.{Joint}
use Rattle.joint_machine.specs.Peers.{gripped}
use Rattle.joint_machine.specs.Run.{on_peers}
use Rattle.joint_replay.specs.Answers.{answers_as}
use Rattle.joint_replay.specs.Judging.{Decides, Gives}
use Rattle.joint_replay.proofs.Growing.{Grows-gripped, err-peers, on-peers, stored-after, with_peers}
use Rattle.std.proofs.lemmas.Result.{IfOk-weaker}
use Rattle.joint_replay.proofs.state.JointState.grip.Goals as goal

pub returns-clause-ok : goal.returns-clause-ok
returns-clause-ok c =
    let s = c.self.inside in
    let i : Joint = record { graph = record { managed = s.managed; peers = s.peers; removed = s.removed.items }; answers = answers_as s.answers.items; marking = s.marking; markings = s.markings } in
    let reply = c.args.reply.now in
    subst (λ (z : Joint). IfOk c.grip.result (λ d. Decides (Gives (on_peers z (gripped z.graph.peers c.args.x)) reply) d z (with_peers i c.grip.new.self c.grip.new.removed.items))) c.self.view_is
    (IfOk-weaker c.grip.result _ _ (λ d w. on-peers i (gripped i.graph.peers c.args.x) reply c.grip.new.self c.grip.new.removed.items d c.grip.ensures.flags w) c.grip.ensures.ok)

pub returns-clause-err : goal.returns-clause-err
returns-clause-err c =
    let s = c.self.inside in
    let i : Joint = record { graph = record { managed = s.managed; peers = s.peers; removed = s.removed.items }; answers = answers_as s.answers.items; marking = s.marking; markings = s.markings } in
    subst (λ (z : Joint). OnErr c.grip.result (with_peers i c.grip.new.self c.grip.new.removed.items ≡ z)) c.self.view_is
    (err-peers i c.grip.new.self c.grip.new.removed.items c.grip.result c.grip.ensures.flags c.grip.ensures.err)

pub invariant_of-self : goal.invariant_of-self
invariant_of-self c =
    let s = c.self.inside in
    let a = gripped s.peers c.args.x in
    stored-after s.peers c.grip.new.self s.marking a c.args.reply.now c.grip.result (Grows-gripped s.peers c.args.x) c.grip.ensures.ok c.grip.ensures.err c.self.invariant
