use Rattle.std.proofs.Common.{[], sym, ap, ◌∙◌, subst}
use Rattle.std.proofs.lemmas.Result.{on_ok_weaker}
use Rattle.joint_machine.specs.declared.names.Phase.TheVariants as at
use Rattle.joint_machine.specs.declared.names.PhaseWord.TheVariants as word
use Rattle.joint_machine.specs.Phases.{next_phase}
use Rattle.listing_laws.proofs.Written.{wrote_none}
use Rattle.script_runs.specs.Listed.{opening_of}
use Rattle.script_runs.specs.Running.{DrivesLine}
use Rattle.script_runs.proofs.Listing.{if_ok}
use Rattle.script_runs.proofs.Opened.{drives_word, lists_none, opens_by_cycle, opens_by_snap, opens_nothing}
use Rattle.script_runs.proofs.compared.drive_listed.Goals as goal

pub open_listed-requires-clause-phase : goal.open_listed-requires-clause-phase
open_listed-requires-clause-phase g c = (opens_by_snap c.args.act.now c.args.driver.now.phase (ap (opening_of c.args.act.now) (sym c.phase.ensures) ∙ (sym c.opening_by.ensures ∙ c.in-Snap.is))).1

pub cycle_listed-requires-clause-phase : goal.cycle_listed-requires-clause-phase
cycle_listed-requires-clause-phase g c = (opens_by_cycle c.args.act.now c.args.driver.now.phase (ap (opening_of c.args.act.now) (sym c.phase.ensures) ∙ (sym c.opening_by.ensures ∙ c.in-Cycle.is))).1

pub returns-in-Snap-clause-ok : goal.returns-in-Snap-clause-ok
returns-in-Snap-clause-ok g c =
    let o = opens_by_snap c.args.act.now c.args.driver.now.phase (ap (opening_of c.args.act.now) (sym c.phase.ensures) ∙ (sym c.opening_by.ensures ∙ c.in-Snap.is)) in
    on_ok_weaker c.open_listed.result (λ k. subst (λ a. DrivesLine c.args.driver.now c.open_listed.new.driver c.args.index a) (sym o.0)
    (drives_word c.args.driver.now c.open_listed.new.driver c.args.index word.Snap at.Snapped (ap (λ p. next_phase p word.Snap) o.1) k)) c.open_listed.ensures.runs

pub returns-in-Cycle-clause-ok : goal.returns-in-Cycle-clause-ok
returns-in-Cycle-clause-ok g c =
    let o = opens_by_cycle c.args.act.now c.args.driver.now.phase (ap (opening_of c.args.act.now) (sym c.phase.ensures) ∙ (sym c.opening_by.ensures ∙ c.in-Cycle.is)) in
    on_ok_weaker c.cycle_listed.result (λ k. subst (λ a. DrivesLine c.args.driver.now c.cycle_listed.new.driver c.args.index a) (sym o.0)
    (drives_word c.args.driver.now c.cycle_listed.new.driver c.args.index word.Cycle at.Idle (ap (λ p. next_phase p word.Cycle) o.1) k)) c.cycle_listed.ensures.runs

pub returns-in-Other-clause-lists : goal.returns-in-Other-clause-lists
returns-in-Other-clause-lists g c =
    let none = opens_nothing c.args.act.now c.args.driver.now.phase (ap (opening_of c.args.act.now) (sym c.phase.ensures) ∙ (sym c.opening_by.ensures ∙ c.in-Other.is)) in
    record {
      cycles = [];
      wrote = wrote_none c.args.listing.now.cycles c.args.listing.now.written (g.O.Sink.held c.args.out.now) (g.O.Sink.faults c.args.out.now);
      listed = if_ok c.drive_line.result (λ k. lists_none c.args.driver.now c.drive_line.new.driver c.args.index c.args.act.now none k) c.drive_line.ensures.ok;
    }
