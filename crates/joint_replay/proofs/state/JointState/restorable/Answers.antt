-- The peer of the handle is the one that it leads to.
use Rattle.std.proofs.Common.{subst}
use Rattle.std.specs.Prelude.{MatchOption}
use Rattle.joint_machine.specs.declared.events.Reply.{Reply}
use Rattle.joint_machine.specs.Joint.{Joint}
use Rattle.joint_machine.specs.Run.{JointRestore}
use Rattle.joint_replay.specs.Answers.{answers_as}
use Rattle.joint_replay.specs.Snaps.{MayRestore}
use Rattle.joint_replay.proofs.Restoring.{may-restore}
use Rattle.joint_replay.proofs.state.JointState.restorable.Goals as goal

pub returns : goal.returns
returns c =
    let i : Joint = record {
      graph = record { managed = c.self.inside.managed; peers = c.self.inside.peers; removed = c.self.inside.removed.items };
      answers = answers_as c.self.inside.answers.items;
      marking = c.self.inside.marking;
      markings = c.self.inside.markings;
    } in
    let h = c.args.h in
    subst (λ (z : Joint). MatchOption c.peer_of.result ((reply : Reply) → (next : Joint) → JointRestore z h reply next → ⊥) (λ p. MayRestore z h p)) c.self.view_is
    (may-restore i h c.peer_of.result (c.has_candidate.ensures.0 c.if-not-has_candidate.false) (rw c.deref.ensures.value at (c.is_kept.ensures.0 c.if-not-is_kept.false)) c.peer_of.ensures)
