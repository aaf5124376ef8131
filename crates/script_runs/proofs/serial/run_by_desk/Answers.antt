use Rattle.std.proofs.Common.{refl, sym, subst}
use Rattle.std.specs.Prelude.{All}
use Rattle.std.proofs.lemmas.Result.{IfOk-weaker}
use Rattle.joint_history.specs.Ending.{BeginsHistory, HasAll, HasIdleDriver, HasOwn}
use Rattle.bridge_cycle.specs.Progress.{pass_of}
use Rattle.run_laws.proofs.InOrderEnds.{all_are_given}
use Rattle.script_runs.proofs.Seated.{all_idle, run_ends}
use Rattle.script_runs.proofs.serial.run_by_desk.Goals as goal

pub returns-in-Ok-clause-all : goal.returns-in-Ok-clause-all
returns-in-Ok-clause-all g c =
    let d = c.new_callers.new.desk in
    let p = pass_of c.run_script.new.driver in
    IfOk-weaker c.all_retired.result _ _ (λ v is. subst (HasAll d) (sym is) (all_are_given d c.run_script.new.others.items p c.in-Ok.ensures.come.others_are refl)) c.all_retired.ensures.all

pub returns-in-Ok-clause-idle : goal.returns-in-Ok-clause-idle
returns-in-Ok-clause-idle g c =
    let p = pass_of c.run_script.new.driver in
    IfOk-weaker c.all_retired.result _ _
    (λ v is. subst (All HasIdleDriver) (sym is) (all_idle c.run_script.new.others.items p c.in-Ok.ensures.come.others_are c.all_retired.ensures.idle)) c.all_retired.ensures.all

pub returns-in-Ok-clause-ran : goal.returns-in-Ok-clause-ran
returns-in-Ok-clause-ran g c =
    let r = c.in-Ok.ensures in
    let d = c.run_script.new.driver in
    IfOk-weaker c.all_retired.result _ _
    (λ v is h linked finished few owns begins.
    run_ends c.args.script.now h r.last r.before d c.run_script.new.others.items (pass_of d) linked finished few r.come r.left refl
    (subst (λ ps. All (HasOwn h.entries) ps) is owns) (subst (λ ps. All (BeginsHistory h.entries) ps) is begins)) c.all_retired.ensures.all
