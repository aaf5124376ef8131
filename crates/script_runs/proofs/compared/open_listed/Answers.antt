use Rattle.std.proofs.Common.{◌≡◌, [], sym, ◌∙◌}
use Rattle.joint_machine.specs.declared.names.Phase.TheVariants as at
use Rattle.listing_laws.proofs.Written.{wrote_none}
use Rattle.script_runs.proofs.Listing.{always_ok, lists_as}
use Rattle.script_runs.proofs.Opened.{lists_opened, opened_phase}
use Rattle.script_runs.proofs.compared.open_listed.Goals as goal

pub returns-in_default-clause-lists : goal.returns-in_default-clause-lists
returns-in_default-clause-lists g c = record {
  cycles = [];
  wrote = wrote_none c.args.listing.now.cycles c.args.listing.now.written (g.O.Sink.held c.args.out.now) (g.O.Sink.faults c.args.out.now);
  listed = tt;
}

pub list_cycle-requires-clause-busy : goal.list_cycle-requires-clause-busy
list_cycle-requires-clause-busy g c = λ e. let s = opened_phase c.args.driver.now c.snap.new.self c.args.index c.requires.phase c.in-Ok.ensures.ok in let no : at.Snapped ≡ at.Idle = sym s ∙ e in cc

pub returns-clause-runs : goal.returns-clause-runs
returns-clause-runs g c = always_ok c.list_cycle.result c.in-Ok.ensures.ok

pub returns-clause-lists : goal.returns-clause-lists
returns-clause-lists g c = lists_as c.list_cycle.result _ _ _ _ _ _ _ _ (λ t cycles l. lists_opened c.args.driver.now c.snap.new.self c.args.index cycles c.in-Ok.ensures.ok l) c.list_cycle.ensures
