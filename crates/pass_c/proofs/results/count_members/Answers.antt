use Rattle.std.proofs.Common.{length, take, ap, arith, length-append}
use Rattle.pass_c.specs.Found.{all_of, flat}
use Rattle.pass_c.proofs.Writing.{all-at, flat-next}
use Rattle.pass_c.proofs.results.count_members.Goals as goal

pub loop-c-preserved : goal.loop-c-preserved
loop-c-preserved c =
    let found = c.args.found.now in
    let all = all_of found.comps c.args.heavy in
    let row = c.objs.result.now in
    let at = all-at found.comps c.args.heavy c.loop-c.c row (omega (arith, c.loop-c-test.true, c.len.ensures.count, c.heavy.ensures)) c.objs.ensures.members c.objs.ensures.none in
    let next = ap length (flat-next all c.loop-c.c row at) in
    let a = length-append (flat (take c.loop-c.c all)) row in
    omega (arith, next, a, c.loop-c.invariant)
