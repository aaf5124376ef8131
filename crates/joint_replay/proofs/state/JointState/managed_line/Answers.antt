-- The managed part alone moves.
use Rattle.std.proofs.Common.{subst}
use Rattle.joint_machine.specs.Joint.{Joint, with_managed}
use Rattle.joint_machine.specs.Managed.{Managed, managed_line}
use Rattle.joint_machine.specs.Run.{on_managed, thread_number}
use Rattle.joint_replay.specs.Answers.{answers_as}
use Rattle.joint_replay.specs.Judging.{Decides, Gives}
use Rattle.joint_replay.proofs.Lifting.{Gives-on}
use Rattle.joint_replay.proofs.state.JointState.managed_line.Goals as goal

pub returns-clause-ok : goal.returns-clause-ok
returns-clause-ok c =
    let i : Joint = record {
      graph = record { managed = c.self.inside.managed; peers = c.self.inside.peers; removed = c.self.inside.removed.items };
      answers = answers_as c.self.inside.answers.items;
      marking = c.self.inside.marking;
      markings = c.self.inside.markings;
    } in
    let t = thread_number c.args.caller in
    let act = c.args.act.now in
    let reply = c.args.reply.now in
    subst (λ (j : Joint). Decides (Gives (on_managed j (managed_line j.graph.managed t act)) reply) c.in_ok-verdict.verdict j (with_managed i c.line.new.self)) c.self.view_is
    (Gives-on (λ (m : Managed). with_managed i m) (managed_line i.graph.managed t act) reply c.in_ok-verdict.verdict i.graph.managed c.line.new.self c.in_ok-verdict.ensures.ok)
