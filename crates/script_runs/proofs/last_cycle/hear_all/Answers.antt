use Rattle.std.proofs.Common.{◌<◌, length, refl, arith}
use Rattle.std.proofs.lemmas.Option.{slice_get_read}
use Rattle.script_runs.proofs.Last.{hears_all, hears_next, hears_none}
use Rattle.script_runs.proofs.last_cycle.hear_all.Goals as goal

pub loop-i-init : goal.loop-i-init
loop-i-init g c = hears_none c.args.driver.now c.args.others.now.items

pub loop-i-preserved : goal.loop-i-preserved
loop-i-preserved g c =
    let xs = c.loop-i.others.items in
    let i = c.loop-i.i in
    let few : i < length xs = (let n = c.loop-i.invariant.same.count in let t = c.loop-i-test.true in omega (arith, n, t)) in
    let at = slice_get_read xs (length xs) i c.index_mut.result.now refl few c.index_mut.ensures.value in
    hears_next i c.args.driver.now c.loop-i.driver c.hear.new.self c.args.others.now.items xs c.index_mut.result.now
    c.hear.new.from at c.hear.ensures.from c.hear.ensures.hears c.hear.ensures.same c.loop-i.invariant

pub returns : goal.returns
returns g c = hears_all c.loop-i.i c.args.driver.now c.loop-i.driver c.args.others.now.items c.loop-i.others.items (let n = c.loop-i.invariant.same.count in omega (arith, n)) c.loop-i.invariant
