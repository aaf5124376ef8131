-- A read that is set aside is unlawful; of every other entry the verdict is that of the step.
use Rattle.std.proofs.Common.{refl, sym, ◌∙◌}
use Rattle.std.proofs.lemmas.Result.{IfOk-weaker}
use Rattle.joint_replay.proofs.Verdicts.{counted, set-aside}
use Rattle.joint_replay.proofs.state.JointState.judge.Goals as goal

pub returns-then-is_none-clause-verdict : goal.returns-then-is_none-clause-verdict
returns-then-is_none-clause-verdict c = (λ next s. set-aside c.args.h.now c.args.entry.now c.args.self.now next (sym c.is_none.ensures ∙ c.if-is_none.true) s, refl)

pub returns-clause-verdict : goal.returns-clause-verdict
returns-clause-verdict c = IfOk-weaker c.judge_step.result _ _
    (λ v w. counted c.args.h.now c.args.entry.now c.args.self.now _ (sym c.is_none.ensures ∙ c.if-is_none.false) v w) c.judge_step.ensures.verdict
