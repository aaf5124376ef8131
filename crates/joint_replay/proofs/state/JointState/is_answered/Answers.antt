-- The answers are those of the state.
use Rattle.std.proofs.Common.{◌≡◌, sym, ap, ◌∙◌}
use Rattle.joint_machine.specs.Joint.{Joint}
use Rattle.joint_replay.specs.Answers.{answers_as, given_in}
use Rattle.joint_replay.proofs.Answering.{given-all, all-given}
use Rattle.joint_replay.proofs.state.JointState.is_answered.Goals as goal

pub returns : goal.returns
returns c =
    let xs = c.self.inside.answers.items in
    let same : c.args.self.now.answers ≡ answers_as xs = ap (λ (z : Joint). z.answers) (sym c.self.view_is) in (
      λ t. (given_in (answers_as xs), same ∙ given-all xs (rw c.deref.ensures.value at (c.are_given.ensures.0 t))),
      λ w. c.are_given.ensures.1 (rw c.deref.ensures.value (all-given xs w.0 (sym same ∙ w.1))),
    )
