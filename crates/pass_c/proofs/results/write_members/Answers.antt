use Rattle.std.proofs.Common.{◌+◌, length, take, ◌++◌, sym, ap, ◌∙◌, arith, length-append}
use Rattle.pass_c.specs.Found.{all_of, flat}
use Rattle.pass_c.proofs.Writing.{all-at, all-count, flat-next, flat-part, flat-within, starts-next}
use Rattle.pass_c.proofs.results.write_members.Goals as goal

pub write_row-at-requires : goal.write_row-at-requires
write_row-at-requires c =
    let found = c.args.found.now in
    let all = all_of found.comps c.args.heavy in
    let row = all-at found.comps c.args.heavy c.loop-c.c c.objs.result.now (omega (arith, c.loop-c-test.true, c.len.ensures.count, c.heavy.ensures)) c.objs.ensures.members c.objs.ensures.none in
    let w = flat-within all c.loop-c.c c.objs.result.now row in
    omega (arith, w, c.loop-c.invariant.at, c.requires.members)

pub loop-c-preserved : goal.loop-c-preserved
loop-c-preserved c =
    let found = c.args.found.now in
    let all = all_of found.comps c.args.heavy in
    let row = c.objs.result.now in
    let at = all-at found.comps c.args.heavy c.loop-c.c row (omega (arith, c.loop-c-test.true, c.len.ensures.count, c.heavy.ensures)) c.objs.ensures.members c.objs.ensures.none in
    let next = flat-next all c.loop-c.c row at in
    let count = all-count found.comps c.args.heavy in
    let i = c.loop-c.invariant in record {
      at = c.write_row-at.ensures.end ∙ (ap (λ n. n + length row) i.at ∙ (sym (length-append (flat (take c.loop-c.c all)) row) ∙ sym (ap length next)));
      starts = starts-next all c.loop-c.starts c.loop-c.c c.loop-c.at (omega (arith, c.loop-c-test.true, c.len.ensures.count, c.heavy.ensures, count)) i.at i.starts;
      members = c.write_row-at.ensures.row ∙ (ap (λ xs. xs ++ row) i.members ∙ sym next);
    }

pub overflow_cast-starts : goal.overflow_cast-starts
overflow_cast-starts c =
    let found = c.args.found.now in
    let p = flat-part (all_of found.comps c.args.heavy) c.loop-c.c in
    omega (arith, p, c.loop-c.invariant.at, c.requires.few)
