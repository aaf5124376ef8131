use Rattle.script_runs.proofs.Listing.{if_ok, lists_failed}
use Rattle.script_runs.specs.Running.{DrivesLeft}
use Rattle.script_runs.proofs.compared.compare_script.Goals as goal

pub drive_left-requires : goal.drive_left-requires
drive_left-requires g c = record { index = c.in-Ok.ensures.listed.0.driven }

pub returns-in_default : goal.returns-in_default
returns-in_default g c = lists_failed c.run_all_listed.result _ _ _ _ _ _ _ _ _ c.run_all_listed.ensures

pub returns : goal.returns
returns g c =
    let l = c.in-Ok.ensures in
    record {
      cycles = l.cycles;
      wrote = l.wrote;
      listed = if_ok c.drive_left.result
          (λ (left : DrivesLeft c.run_all_listed.new.driver c.drive_left.new.driver c.in-Ok.last). record {
            ran = record { last = c.in-Ok.last; before = c.run_all_listed.new.driver; come = l.listed.0; left = left; idle = c.drive_left.ensures.idle };
            listed = l.listed.1;
          }) c.drive_left.ensures.ok;
    }
