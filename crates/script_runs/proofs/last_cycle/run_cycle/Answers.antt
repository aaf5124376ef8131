use Rattle.std.proofs.Common.{◌≤◌, length, sym, subst, arith, All}
use Rattle.joint_history.specs.Callers.{last_index, own}
use Rattle.joint_history.specs.Ending.{HasAll, HasOwn, HasIdleDriver}
use Rattle.script_runs.proofs.Last.{all_idle_then, driver_ran, first_and_rest, has_all_then, is_driver, runs_then_cycle, some_first}
use Rattle.script_runs.proofs.last_cycle.run_cycle.Goals as goal

pub remove-driver-requires : goal.remove-driver-requires
remove-driver-requires g c = let some = some_first c.args.callers.now.items c.requires.ran.driver_first in omega (arith, some)

pub cycle_last-requires-clause-driver : goal.cycle_last-requires-clause-driver
cycle_last-requires-clause-driver g c =
    let are = first_and_rest c.args.callers.now.items c.remove-driver.new.self.items c.remove-driver.result
    (some_first c.args.callers.now.items c.requires.ran.driver_first) c.remove-driver.ensures.value c.remove-driver.ensures.by_index.2 in
    is_driver c.args.script.now c.args.callers.now.items c.remove-driver.new.self.items c.remove-driver.result c.requires.ran are

pub cycle_last-requires-clause-idle : goal.cycle_last-requires-clause-idle
cycle_last-requires-clause-idle g c =
    let are = first_and_rest c.args.callers.now.items c.remove-driver.new.self.items c.remove-driver.result
    (some_first c.args.callers.now.items c.requires.ran.driver_first) c.remove-driver.ensures.value c.remove-driver.ensures.by_index.2 in
    (driver_ran c.args.script.now c.args.callers.now.items c.remove-driver.new.self.items c.remove-driver.result c.requires.ran are).idle

pub cycle_last-requires-clause-number : goal.cycle_last-requires-clause-number
cycle_last-requires-clause-number g c =
    let are = first_and_rest c.args.callers.now.items c.remove-driver.new.self.items c.remove-driver.result
    (some_first c.args.callers.now.items c.requires.ran.driver_first) c.remove-driver.ensures.value c.remove-driver.ensures.by_index.2 in
    let up : last_index (own c.remove-driver.result) ≤ length c.args.script.now =
    (driver_ran c.args.script.now c.args.callers.now.items c.remove-driver.new.self.items c.remove-driver.result c.requires.ran are).up_to in
    omega (arith, up)

pub returns-clause-all : goal.returns-clause-all
returns-clause-all g c = λ d all.
    let are = first_and_rest c.args.callers.now.items c.remove-driver.new.self.items c.remove-driver.result
    (some_first c.args.callers.now.items c.requires.ran.driver_first) c.remove-driver.ensures.value c.remove-driver.ensures.by_index.2 in
    subst (HasAll d) (sym c.in_ok-push.ensures.items)
    (has_all_then c.args.script.now c.args.callers.now.items c.remove-driver.new.self.items c.remove-driver.result c.requires.ran are
    c.cycle_last.new.others.items c.in_ok-driver.driver c.in_ok-driver.ensures.same c.in_ok-driver.ensures.ends.same d all)

pub returns-clause-idle : goal.returns-clause-idle
returns-clause-idle g c =
    let are = first_and_rest c.args.callers.now.items c.remove-driver.new.self.items c.remove-driver.result
    (some_first c.args.callers.now.items c.requires.ran.driver_first) c.remove-driver.ensures.value c.remove-driver.ensures.by_index.2 in
    subst (All HasIdleDriver) (sym c.in_ok-push.ensures.items)
    (all_idle_then c.args.script.now c.args.callers.now.items c.remove-driver.new.self.items c.remove-driver.result c.requires.ran are
    c.cycle_last.new.others.items c.in_ok-driver.driver c.in_ok-driver.ensures.same c.in_ok-driver.ensures.ends.same c.in_ok-driver.ensures.idle)

pub returns-clause-ran : goal.returns-clause-ran
returns-clause-ran g c = λ h d all left finished few owns none.
    let are = first_and_rest c.args.callers.now.items c.remove-driver.new.self.items c.remove-driver.result
    (some_first c.args.callers.now.items c.requires.ran.driver_first) c.remove-driver.ensures.value c.remove-driver.ensures.by_index.2 in
    runs_then_cycle c.args.script.now c.args.callers.now.items c.remove-driver.new.self.items c.remove-driver.result c.requires.ran are
    c.cycle_last.new.others.items c.in_ok-driver.driver c.in_ok-driver.ensures.same c.in_ok-driver.ensures.ends.same
    h d c.requires.lines all left c.in_ok-driver.ensures.ends finished few
    (subst (λ ps. All (HasOwn h.entries) ps) c.in_ok-push.ensures.items owns) none
