-- A marking from the kept candidates leaves out what goes.
use Rattle.std.proofs.Common.{subst}
use Rattle.joint_machine.specs.Joint.{Joint}
use Rattle.joint_replay.specs.Answers.{answers_as}
use Rattle.joint_replay.specs.Snaps.{Settles}
use Rattle.joint_replay.proofs.Snapping.{settles-from}
use Rattle.joint_replay.proofs.state.JointState.settled.Goals as goal

pub kept_marks-requires : goal.kept_marks-requires
kept_marks-requires c = rw c.candidates.ensures c.in-Some.ensures.1.2

pub returns : goal.returns
returns c =
    let i : Joint = record {
      graph = record { managed = c.self.inside.managed; peers = c.self.inside.peers; removed = c.self.inside.removed.items };
      answers = answers_as c.self.inside.answers.items;
      marking = c.self.inside.marking;
      markings = c.self.inside.markings;
    } in
    let freed = c.in_ok-freed.freed.items in
    subst (λ (z : Joint). Settles z c.args.k.0 freed) c.self.view_is
    (settles-from i c.args.k.0 c.in-Some.open.now freed c.in_ok-marks.marks.items c.in-Some.ensures.0 c.in-Some.ensures.1
    (rw c.candidates.ensures at c.in_ok-marks.ensures) (rw (c.deref.ensures.value, c.dead.ensures) at c.in_ok-freed.ensures))
