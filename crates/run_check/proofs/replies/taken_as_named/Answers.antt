use Rattle.std.proofs.Common.{sym, ◌∙◌, refl, arith, true≢false}
use Rattle.std.proofs.lemmas.List.{length-map}
use Rattle.joint_machine.specs.Histories.{managed_numbers}
use Rattle.run_check.proofs.Stretches.{stretch_told, told_no}
use Rattle.run_check.proofs.replies.taken_as_named.Goals as goal

pub returns-then-not-is_notice_at : goal.returns-then-not-is_notice_at
returns-then-not-is_notice_at c =
    told_no (managed_numbers c.args.h.now.notices) c.args.side.now.state.managed.notices c.args.span c.requires.within c.loop-i.i c.loop-i.auto.i c.loop-i-test.true
    (λ e. true≢false (sym (c.is_notice_at.ensures.1 e) ∙ c.if-not-is_notice_at.true))

pub returns : goal.returns
returns c = (
  λ t. stretch_told (managed_numbers c.args.h.now.notices) c.args.side.now.state.managed.notices c.args.span c.requires.within
      (let n = length-map c.args.h.now.notices (λ x. x.0) in let w = c.has_notices.ensures.0 c.if-not-has_notices.false in omega (arith, n, w))
      (λ k low high. c.loop-i.invariant k low (omega (arith, high, c.loop-i-test.false))),
  λ st. refl,
)
