use Rattle.std.proofs.Common.{[], sym, ◌∙◌}
use Rattle.joint_machine.specs.declared.names.Thread.TheVariants.{C}
use Rattle.joint_machine.proofs.HeapLemmas.{same_thread}
use Rattle.listing_laws.proofs.Written.{wrote_none}
use Rattle.script_runs.proofs.Opened.{lists_told}
use Rattle.script_runs.proofs.Told.{driver_comes, other_comes}
use Rattle.script_runs.proofs.compared.run_next_listed.Goals as goal

pub run_other-requires-clause-other : goal.run_other-requires-clause-other
run_other-requires-clause-other g c = sym c.is_thread.ensures ∙ c.if-is_thread.false

pub returns-then-is_thread : goal.returns-then-is_thread
returns-then-is_thread g c =
    let l = c.in-Ok.ensures.lists in
    record {
      cycles = l.cycles;
      wrote = l.wrote;
      listed = (
        driver_comes c.args.number c.args.last c.args.line.now c.args.driver.now c.drive_listed.new.driver c.args.others.now.items
            (sym (same_thread C c.args.line.now.0 (sym c.is_thread.ensures ∙ c.if-is_thread.true))) c.requires.others c.requires.up_to c.drive_listed.ensures.index c.in-Ok.ensures.ok,
        l.listed,
      );
    }

pub returns-in_default-run_other : goal.returns-in_default-run_other
returns-in_default-run_other g c = record {
  cycles = [];
  wrote = wrote_none c.args.listing.now.cycles c.args.listing.now.written (g.O.Sink.held c.args.out.now) (g.O.Sink.faults c.args.out.now);
  listed = tt;
}

pub returns : goal.returns
returns g c =
    let k = c.in-Ok-run_other.ensures in
    record {
      cycles = [];
      wrote = wrote_none c.args.listing.now.cycles c.args.listing.now.written (g.O.Sink.held c.args.out.now) (g.O.Sink.faults c.args.out.now);
      listed = (
        other_comes c.args.number c.args.last c.args.line.now c.args.driver.now c.run_other.new.driver c.args.others.now.items c.run_other.new.others.items
            (sym c.is_thread.ensures ∙ c.if-is_thread.false) c.requires.driven.0 c.requires.driven.1 k,
        lists_told c.args.driver.now c.run_other.new.driver k.own_stay k.knew,
      );
    }
