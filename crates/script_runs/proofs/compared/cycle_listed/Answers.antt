use Rattle.std.proofs.lemmas.Result.{on_ok_weaker}
use Rattle.bridge_cycle.proofs.Composed.{rest_makes_a_cycle}
use Rattle.script_runs.proofs.Listing.{if_ok, lists_failed}
use Rattle.script_runs.proofs.Opened.{lists_left}
use Rattle.script_runs.proofs.compared.cycle_listed.Goals as goal

pub returns-in_default-clause-lists : goal.returns-in_default-clause-lists
returns-in_default-clause-lists g c = lists_failed c.open_listed.result _ _ _ _ _ _ _ _ _ c.open_listed.ensures.lists

pub returns-clause-runs : goal.returns-clause-runs
returns-clause-runs g c = on_ok_weaker c.end.result (λ k. rest_makes_a_cycle c.args.driver.now c.open_listed.new.driver c.end.new.self c.args.index c.requires.phase c.in-Ok.ensures.runs k)
    c.end.ensures.ok

pub returns-clause-lists : goal.returns-clause-lists
returns-clause-lists g c =
    let l = c.in-Ok.ensures.lists in
    record {
      cycles = l.cycles;
      wrote = l.wrote;
      listed = if_ok c.end.result
          (λ k. lists_left c.args.driver.now c.open_listed.new.driver c.end.new.self c.args.index l.cycles l.listed k) c.end.ensures.ok;
    }
