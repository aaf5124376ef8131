-- The caller may end the open marking, so its sweep is not refused.
use Rattle.std.proofs.Common.{◌≡◌, Some, subst}
use Rattle.joint_machine.specs.Joint.{Joint}
use Rattle.joint_replay.specs.Judging.{named_peers}
use Rattle.joint_replay.specs.Snaps.{MayEndOpen}
use Rattle.joint_replay.proofs.Sweeping.{sweep-ends}
use Rattle.std.proofs.lemmas.Result.{IfOk-weaker}
use Rattle.joint_replay.proofs.state.JointState.sweep.Goals as goal

pub returns-clause-ok : goal.returns-clause-ok
returns-clause-ok c =
    let j = c.args.self.now in
    let t = c.args.caller in
    let reply = c.args.reply.now in
    let may : MayEndOpen j t = record {
      marking = c.in-Some.marking;
      opened = subst (λ (z : Joint). z.marking ≡ Some c.in-Some.marking) c.self.view_is c.in-Some.is;
      allowed = c.is_ended_by.ensures.0 c.if-not-is_ended_by.false;
    } in
    IfOk-weaker c.end_marking.result _ _ (λ d w. sweep-ends j t reply (named_peers c.args.h.now reply) d _ may w) c.end_marking.ensures.ok
