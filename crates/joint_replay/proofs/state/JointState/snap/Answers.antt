-- The managed part moves, and the answers with it.
use Rattle.std.proofs.Common.{subst}
use Rattle.joint_machine.specs.Joint.{Joint, with_managed}
use Rattle.joint_replay.specs.Answers.{answers_as}
use Rattle.joint_replay.specs.Snaps.{SnapsJoint}
use Rattle.joint_replay.specs.Judging.{named_objects, Decides}
use Rattle.joint_replay.proofs.Snapping.{snap-decided}
use Rattle.joint_replay.proofs.state.JointState.snap.Goals as goal

pub returns-clause-ok : goal.returns-clause-ok
returns-clause-ok c =
    let i : Joint = record {
      graph = record { managed = c.self.inside.managed; peers = c.self.inside.peers; removed = c.self.inside.removed.items };
      answers = answers_as c.self.inside.answers.items;
      marking = c.self.inside.marking;
      markings = c.self.inside.markings;
    } in
    let k = c.args.k.0 in
    let reply = c.args.reply.now in
    let named = named_objects c.args.h.now reply in
    let answers = answers_as c.snap.new.answers.items in
    subst (λ (j : Joint). Decides (SnapsJoint j k named reply) c.in_ok-verdict.verdict j (record (with_managed i c.snap.new.self) { answers = answers })) c.self.view_is
    (snap-decided i k named reply c.in_ok-verdict.verdict c.snap.new.self answers c.in_ok-verdict.ensures.ok c.in_ok-verdict.ensures.answers)
