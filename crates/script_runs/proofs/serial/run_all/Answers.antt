use Rattle.std.proofs.Common.{◌≡◌, ◌+◌, length, take, sym, ◌∙◌, ap, subst, arith}
use Rattle.script_laws.specs.Holding.{numbered_from}
use Rattle.script_runs.specs.Running.{HasCome}
use Rattle.script_runs.proofs.Reading as reading
use Rattle.script_runs.proofs.Reading.{runnable, there}
use Rattle.script_runs.proofs.Seated.{comes_further, come_through, first_of_new, later_up_to}
use Rattle.script_runs.proofs.serial.run_all.Goals as goal

pub loop-line-init : goal.loop-line-init
loop-line-init g c = first_of_new c.args.script.now c.args.driver.now c.args.others.now.items c.requires.new

pub run_next-requires-clause-line : goal.run_next-requires-clause-line
run_next-requires-clause-line g c = runnable c.args.script.now c.loop-line.line-index c.loop-line-test.true c.requires.lines

pub run_next-requires-clause-others : goal.run_next-requires-clause-others
run_next-requires-clause-others g c = c.loop-line.invariant.others_are

pub run_next-requires-clause-driven : goal.run_next-requires-clause-driven
run_next-requires-clause-driven g c = let i = c.loop-line.invariant in let w = i.within in (i.driven, omega (arith, w))

pub run_next-requires-clause-up_to : goal.run_next-requires-clause-up_to
run_next-requires-clause-up_to g c = later_up_to c.loop-line.number (c.loop-line.number + 1) c.loop-line.others.items (omega arith) c.loop-line.invariant.up_to

pub loop-line-preserved : goal.loop-line-preserved
loop-line-preserved g c =
    let script = c.args.script.now in
    let i = c.loop-line.line-index in
    comes_further script i c.loop-line.number c.loop-line.last _ c.loop-line.driver c.run_next.new.driver c.loop-line.others.items c.run_next.new.others.items
    (reading.line_of script i) (there script i c.loop-line-test.true) c.loop-line.invariant c.in_ok-last.ensures

pub returns : goal.returns
returns g c =
    let end : c.loop-line.line-index ≡ length c.args.script.now = omega arith in
    let i = c.loop-line.invariant in
    come_through c.args.script.now c.loop-line.last c.loop-line.driver c.loop-line.others.items
    (subst (λ n. HasCome (numbered_from 1 (take n c.args.script.now)) c.loop-line.last c.loop-line.driver c.loop-line.others.items) end i.come) i.others_are i.driven
