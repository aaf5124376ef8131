use Rattle.std.proofs.Common.{◌≡◌, ◌+◌, ◌++◌, length, take, refl, ap, subst, arith}
use Rattle.joint_history.specs.Callers.{own}
use Rattle.bridge_cycle.specs.Progress.{pass_of}
use Rattle.listing_laws.specs.Snapshots.{snaps_of}
use Rattle.script_laws.specs.Holding.{numbered_from}
use Rattle.script_runs.specs.Running.{HasCome}
use Rattle.script_runs.proofs.Reading as reading
use Rattle.script_runs.proofs.Owned.{own_nothing}
use Rattle.script_runs.proofs.Reading.{runnable, there}
use Rattle.script_runs.proofs.Seated.{comes_further, come_through, first_of_new, later_up_to}
use Rattle.listing_laws.proofs.Written.{wrote_then}
use Rattle.script_runs.proofs.Listing.{listed_more, listed_none}
use Rattle.script_runs.proofs.compared.run_all_listed.Goals as goal

pub loop-line-init : goal.loop-line-init
loop-line-init g c =
    let d = c.args.driver.now in
    let new = c.requires.new in
    (first_of_new c.args.script.now d c.args.others.now.items new, listed_none c.args.listing.now _ _ d (ap snaps_of (own_nothing (pass_of d) new.driver.nothing)))

pub run_next_listed-requires-clause-line : goal.run_next_listed-requires-clause-line
run_next_listed-requires-clause-line g c = runnable c.args.script.now c.loop-line.line-index c.loop-line-test.true c.requires.lines

pub run_next_listed-requires-clause-others : goal.run_next_listed-requires-clause-others
run_next_listed-requires-clause-others g c = c.loop-line.invariant.0.others_are

pub run_next_listed-requires-clause-driven : goal.run_next_listed-requires-clause-driven
run_next_listed-requires-clause-driven g c = let i = c.loop-line.invariant.0 in let w = i.within in (i.driven, omega (arith, w))

pub run_next_listed-requires-clause-up_to : goal.run_next_listed-requires-clause-up_to
run_next_listed-requires-clause-up_to g c = later_up_to c.loop-line.number (c.loop-line.number + 1) c.loop-line.others.items (omega arith) c.loop-line.invariant.0.up_to

pub run_next_listed-requires-clause-few : goal.run_next_listed-requires-clause-few
run_next_listed-requires-clause-few g c = let l = c.loop-line.invariant.1 in let a = l.wrote.counted in
    let b = l.few in let n = c.requires.none in let m = c.requires.lines.count in omega (arith, a, b, n, m)

pub loop-line-preserved : goal.loop-line-preserved
loop-line-preserved g c =
    let script = c.args.script.now in
    let i = c.loop-line.line-index in
    let w = c.in-Ok.ensures in (
      comes_further script i c.loop-line.number c.loop-line.last _ c.loop-line.driver c.run_next_listed.new.driver c.loop-line.others.items c.run_next_listed.new.others.items
          (reading.line_of script i) (there script i c.loop-line-test.true) c.loop-line.invariant.0 w.listed.0,
      listed_more {n = i} c.loop-line.invariant.1 w.cycles w.wrote w.listed.1,
    )

pub returns-in_default : goal.returns-in_default
returns-in_default g c =
    let l = c.loop-line.invariant.1 in
    let m = c.run_next_listed.ensures in
    record { cycles = l.cycles ++ m.cycles; wrote = wrote_then _ _ _ _ _ _ _ _ _ _ _ _ l.cycles m.cycles l.wrote m.wrote; listed = tt }

pub returns : goal.returns
returns g c =
    let end : c.loop-line.line-index ≡ length c.args.script.now = omega arith in
    let i = c.loop-line.invariant.0 in
    let l = c.loop-line.invariant.1 in
    record {
      cycles = l.cycles;
      wrote = l.wrote;
      listed = (
        come_through c.args.script.now c.loop-line.last c.loop-line.driver c.loop-line.others.items
            (subst (λ n. HasCome (numbered_from 1 (take n c.args.script.now)) c.loop-line.last c.loop-line.driver c.loop-line.others.items) end i.come) i.others_are i.driven,
        l.all,
      );
    }
