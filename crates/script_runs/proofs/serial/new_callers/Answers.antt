use Rattle.std.proofs.Common.{refl, sym, ◌∙◌, ap, subst, arith}
use Rattle.joint_machine.specs.declared.names.Thread.TheVariants.{C}
use Rattle.joint_machine.specs.Lines.{IsDriver}
use Rattle.joint_history.specs.Callers.{KnowsNothing}
use Rattle.joint_history.specs.Desks.{Waiting}
use Rattle.bridge_cycle.specs.Progress.{Progress}
use Rattle.script_runs.proofs.Desked.{counts_stay}
use Rattle.script_runs.proofs.Seated.{AreThereFrom, all_there, is_there, rest_there}
use Rattle.bridge_cycle.proofs.Refusals.{idle_first}
use Rattle.script_runs.proofs.serial.new_callers.Goals as goal

pub unreachable-requires : goal.unreachable-requires
unreachable-requires g c =
    let d = c.requires.desk in
    is_there c.args.desk.now 0 C d.0 d.1 tt refl (omega arith) (all_there c.args.desk.now 0 d.2) (sym c.caller.ensures.caller ∙ c.in_default.is)

pub all_others-requires-clause-desk : goal.all_others-requires-clause-desk
all_others-requires-clause-desk g c =
    let d = c.requires.desk in
    let k = counts_stay c.args.desk.now C in
    let is = c.caller.ensures.desk in
    (ap (λ (z : Waiting). z.managed) is ∙ (k.0 ∙ d.0), ap (λ (z : Waiting). z.peers) is ∙ (k.1 ∙ d.1))

pub all_others-requires-clause-all : goal.all_others-requires-clause-all
all_others-requires-clause-all g c = subst (AreThereFrom 1) (sym c.caller.ensures.desk) (rest_there c.args.desk.now 0 C refl (all_there c.args.desk.now 0 c.requires.desk.2))

pub new-requires-clause-driver : goal.new-requires-clause-driver
new-requires-clause-driver g c = subst IsDriver (sym c.in-Some.ensures.thread) tt

pub new-requires-clause-idle : goal.new-requires-clause-idle
new-requires-clause-idle g c = idle_first c.in-Some.caller c.in-Some.ensures.nothing

pub returns-in-Ok : goal.returns-in-Ok
returns-in-Ok g c = record {
  driver = record {
    nothing = subst KnowsNothing (sym (ap (λ (z : Progress). z.view) c.new.ensures)) c.in-Some.ensures.nothing;
    phase = ap (λ (z : Progress). z.phase) c.new.ensures;
    candidates = ap (λ (z : Progress). z.candidates) c.new.ensures;
  };
  others_are = c.in-Ok.ensures.others;
  nothing = c.in-Ok.ensures.new;
}
