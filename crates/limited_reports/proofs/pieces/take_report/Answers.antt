use Rattle.std.proofs.Common.{◌+◌, ◌<◌, ◌++◌, length, arith}
use Rattle.std.proofs.lemmas.Result.{IfErr-weaker}
use Rattle.limited_reports.specs.Answers.{TookNone}
use Rattle.limited_reports.specs.Pieces.{IsNone}
use Rattle.limited_reports.proofs.Holding.{took_none}
use Rattle.limited_reports.proofs.pieces.take_report.Goals as goal

pub returns-in-Ok-true-clause-err : goal.returns-in-Ok-true-clause-err
returns-in-Ok-true-clause-err g c =
    let whole = c.in-Ok-true.ensures.ended c.in-Ok-true.field-0-test in
    let left = g.S.Source.left c.args.src.now in
    let rest = g.S.Source.left c.take_pieces.new.src in
    let before = g.S.Source.faults c.args.src.now in
    let now = g.S.Source.faults c.take_pieces.new.src in
    let held = c.take_pieces.new.held.items in
    let most : c.args.most < 4294967294 = c.requires in
    let size = whole.taken.size in
    let count = whole.size in
    let few : length whole.taken.front + length held < 4294967295 = omega (arith, size, count, most) in
    let err = rw c.deref.ensures.value at c.finish.ensures.err in
    IfErr-weaker c.finish.result (λ e. IsNone (whole.taken.front ++ held) e) (λ e. TookNone c.args.most left rest before now e)
    (λ e w. took_none c.args.most left rest c.take_pieces.new.draft held before now e whole w) (err whole.taken.front whole.taken.lines few)
