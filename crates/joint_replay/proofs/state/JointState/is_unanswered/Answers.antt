-- The answers are those of the state.
use Rattle.std.proofs.Common.{◌≡◌, None, sym, ap, subst}
use Rattle.std.specs.List.{All}
use Rattle.joint_machine.specs.Joint.{Joint}
use Rattle.joint_replay.specs.Answers.{answers_as}
use Rattle.joint_replay.proofs.Answering.{missing-all, all-missing}
use Rattle.joint_replay.proofs.state.JointState.is_unanswered.Goals as goal

pub returns : goal.returns
returns c =
    let xs = c.self.inside.answers.items in
    let same : c.args.self.now.answers ≡ answers_as xs = ap (λ (z : Joint). z.answers) (sym c.self.view_is) in (
      λ t. subst (λ l. All (λ a. a ≡ None) l) (sym same) (missing-all xs (rw c.deref.ensures.value at (c.are_missing.ensures.0 t))),
      λ w. c.are_missing.ensures.1 (rw c.deref.ensures.value (all-missing xs (subst (λ l. All (λ a. a ≡ None) l) same w))),
    )
