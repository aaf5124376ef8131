use Rattle.std.proofs.Common.{[], ◌∷◌, refl, sym, ap, subst}
use Rattle.joint_machine.specs.declared.names.Cycle.{Cycle}
use Rattle.bridge_cycle.specs.OpenParts.{IsOpenPart}
use Rattle.graph_listing.specs.Numbers.{listed_of}
use Rattle.listing_laws.proofs.Written.{wrote_none}
use Rattle.script_runs.proofs.Opened.{members_are_nodes, open_is_listed}
use Rattle.script_runs.proofs.compared.list_cycle.Goals as goal

pub write_next-listing-requires : goal.write_next-listing-requires
write_next-listing-requires g c = record { nodes = members_are_nodes _ _ _ _ _ c.in-Ok.ensures.2 }

pub returns-in_default-second_pass : goal.returns-in_default-second_pass
returns-in_default-second_pass g c = record {
  cycles = [];
  wrote = wrote_none c.args.listing.now.cycles c.args.listing.now.written (g.O.Sink.held c.args.out.now) (g.O.Sink.faults c.args.out.now);
  listed = tt;
}

pub returns : goal.returns
returns g c =
    let k = c.cycle_number-cycle.result in
    let part = subst (λ (j : Cycle). IsOpenPart c.args.driver.now.view j c.in-Some.graph.now) (sym c.cycle_number-cycle.ensures) c.in-Some.ensures.graph in
    let o = open_is_listed c.args.driver.now.view k c.in-Some.graph.now c.in-Ok.comps part c.in-Ok.ensures in
    record {
      cycles = listed_of k.0 c.in-Some.graph.now c.in-Ok.comps ∷ [];
      wrote = record { goes_on = c.write_next-listing.ensures; counted = refl };
      listed = record {
        one = listed_of k.0 c.in-Some.graph.now c.in-Ok.comps;
        only = refl;
        number = ap (λ (j : Cycle). j.0) (sym c.cycle_number-cycle.ensures);
        known = o.known;
        cycle = o.cycle;
        open_cycle = o.open_cycle;
        lists = o.lists;
      };
    }
