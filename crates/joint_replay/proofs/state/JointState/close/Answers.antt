-- Each candidate has had its restore, so the answers are those that were given.
use Rattle.std.proofs.Common.{◌≡◌, map, Some, ap, sym, subst}
use Rattle.joint_machine.specs.Joint.{Joint}
use Rattle.joint_replay.specs.Answers.{answers_as, given_in}
use Rattle.joint_replay.proofs.Answering.{all-answered}
use Rattle.joint_replay.proofs.state.JointState.close.Goals as goal

pub close-requires-clause-given : goal.close-requires-clause-given
close-requires-clause-given c =
    let same : c.args.self.now.answers ≡ answers_as c.self.inside.answers.items = ap (λ (z : Joint). z.answers) (sym c.self.view_is) in
    rw c.deref.ensures.value (subst (λ l. l ≡ map Some (given_in l)) same (all-answered c.args.self.now c.requires.given))
