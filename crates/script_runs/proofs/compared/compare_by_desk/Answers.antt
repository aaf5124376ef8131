use Rattle.std.proofs.Common.{[], ◌∷◌, ◌++◌, refl, sym, subst}
use Rattle.std.specs.Prelude.{All}
use Rattle.std.proofs.lemmas.Result.{IfOk-weaker}
use Rattle.std.proofs.lemmas.List.Elements.{All-contains, Contains-append_right}
use Rattle.joint_machine.proofs.Members.{Contains-here}
use Rattle.joint_history.specs.Ending.{BeginsHistory, BeginsPast, HasAll, HasIdleDriver, HasOwn}
use Rattle.bridge_cycle.specs.Progress.{pass_of}
use Rattle.run_laws.proofs.InOrderEnds.{all_are_given}
use Rattle.listing_laws.proofs.Written.{wrote_none}
use Rattle.script_runs.proofs.Listing.{lists_failed}
use Rattle.script_runs.proofs.Opened.{listed_in_history}
use Rattle.script_runs.proofs.Seated.{all_idle, run_ends}
use Rattle.script_runs.proofs.compared.compare_by_desk.Goals as goal

pub returns-in_default-clause-lists : goal.returns-in_default-clause-lists
returns-in_default-clause-lists g c = record {
  cycles = [];
  wrote = wrote_none c.args.listing.now.cycles c.args.listing.now.written (g.O.Sink.held c.args.out.now) (g.O.Sink.faults c.args.out.now);
  listed = tt;
}

pub returns-in-Err-clause-lists : goal.returns-in-Err-clause-lists
returns-in-Err-clause-lists g c = lists_failed c.compare_script-ran.result _ _ _ _ _ _ _ _ _ c.compare_script-ran.ensures

pub returns-in-Ok-ran-clause-all : goal.returns-in-Ok-ran-clause-all
returns-in-Ok-ran-clause-all g c =
    let d = c.new_callers.new.desk in
    let p = pass_of c.compare_script-ran.new.driver in
    IfOk-weaker c.all_retired.result _ _ (λ v is. subst (HasAll d) (sym is)
    (all_are_given d c.compare_script-ran.new.others.items p c.in-Ok-ran.ensures.listed.ran.come.others_are refl)) c.all_retired.ensures.all

pub returns-in-Ok-ran-clause-idle : goal.returns-in-Ok-ran-clause-idle
returns-in-Ok-ran-clause-idle g c =
    let p = pass_of c.compare_script-ran.new.driver in
    IfOk-weaker c.all_retired.result _ _
    (λ v is. subst (All HasIdleDriver) (sym is) (all_idle c.compare_script-ran.new.others.items p c.in-Ok-ran.ensures.listed.ran.come.others_are c.all_retired.ensures.idle)) c.all_retired.ensures.all

pub returns-in-Ok-ran-clause-ran : goal.returns-in-Ok-ran-clause-ran
returns-in-Ok-ran-clause-ran g c =
    let r = c.in-Ok-ran.ensures.listed.ran in
    let d = c.compare_script-ran.new.driver in
    IfOk-weaker c.all_retired.result _ _
    (λ v is h linked finished few owns begins.
    run_ends c.args.script.now h r.last r.before d c.compare_script-ran.new.others.items (pass_of d) linked finished few r.come r.left refl
    (subst (λ ps. All (HasOwn h.entries) ps) is owns) (subst (λ ps. All (BeginsHistory h.entries) ps) is begins)) c.all_retired.ensures.all

pub returns-in-Ok-ran-clause-lists : goal.returns-in-Ok-ran-clause-lists
returns-in-Ok-ran-clause-lists g c =
    let l = c.in-Ok-ran.ensures in
    let r = l.listed.ran in
    let come = r.come.come in
    let d = c.compare_script-ran.new.driver in
    let others = c.compare_script-ran.new.others.items in
    let last = Contains-append_right others (pass_of d ∷ []) (pass_of d) (Contains-here (pass_of d) []) in
    record {
      cycles = l.cycles;
      wrote = l.wrote;
      listed = IfOk-weaker c.all_retired.result _ _
          (λ v is h linked owns a.
          listed_in_history h r.before d (pass_of d) _ r.last l.cycles linked l.listed.listed come.standing come.stands come.line r.left refl
          (All-contains (HasOwn h.entries) (others ++ pass_of d ∷ []) (pass_of d) (subst (λ ps. All (HasOwn h.entries) ps) is owns) last)
          a (All-contains (BeginsPast a.past) (others ++ pass_of d ∷ []) (pass_of d) (subst (λ ps. All (BeginsPast a.past) ps) is a.begins) last)) c.all_retired.ensures.all;
    }
