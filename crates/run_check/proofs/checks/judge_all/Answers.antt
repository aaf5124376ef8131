use Rattle.std.proofs.Common.{◌≡◌, ◌+◌, ◌∷◌, None, Some, refl, sym, ap, ◌∙◌, subst}
use Rattle.run_check.specs.Judging.{GoesOnFrom}
use Rattle.run_check.proofs.Checked.{IsChecked, illegal, more}
use Rattle.run_check.proofs.checks.judge_all.Goals as goal

pub returns-in-Some-2 : goal.returns-in-Some-2
returns-in-Some-2 c =
    let h = c.args.h.now in
    let n = c.loop-step.number in
    let e = c.entry_of-entry.result in
    let left = c.next.new.self in
    let w : IsChecked h c.loop-step.replay n (e ∷ left) = subst (IsChecked h c.loop-step.replay n) (c.in-Some.ensures ∙ ap (λ x. x ∷ left) (sym c.entry_of-entry.ensures)) c.loop-step.invariant in
    let g : GoesOnFrom h e c.loop-step.replay c.judge_next.new.replay n (Some c.in-Some-2.why) = subst
    (GoesOnFrom h e c.loop-step.replay c.judge_next.new.replay n) c.in-Some-2.is c.in_ok-why.ensures in
    (illegal h c.loop-step.replay n e left w c.in-Some-2.why (g w.past w.walked), λ q. cc)

pub loop-step-preserved : goal.loop-step-preserved
loop-step-preserved c =
    let h = c.args.h.now in
    let n = c.loop-step.number in
    let e = c.entry_of-entry.result in
    let left = c.next.new.self in
    let w : IsChecked h c.loop-step.replay n (e ∷ left) = subst (IsChecked h c.loop-step.replay n) (c.in-Some.ensures ∙ ap (λ x. x ∷ left) (sym c.entry_of-entry.ensures)) c.loop-step.invariant in
    let g : GoesOnFrom h e c.loop-step.replay c.judge_next.new.replay n None = subst (GoesOnFrom h e c.loop-step.replay c.judge_next.new.replay n) c.in_default-2.is c.in_ok-why.ensures in
    more h c.loop-step.replay n e left w c.judge_next.new.replay (n + 1) refl g.0 (g.2 w.past w.walked)
