use Rattle.std.proofs.Common.{◌≡◌, ◌+◌, ◌<◌, ◌++◌, length, ◌∙◌, arith, rules}
use Rattle.std.proofs.lemmas.Result.{IfErr-weaker, IfOk-weaker}
use Rattle.report_reader.specs.Reading.{IsReadAs}
use Rattle.limited_reports.specs.Answers.{TookNone, TookReport}
use Rattle.limited_reports.specs.Pieces.{IsNone}
use Rattle.limited_reports.proofs.Holding.{ended_at, long_at, long_few, took_none, took_report}
use Rattle.limited_reports.proofs.pieces.finish_at_limit.Goals as goal

pub returns-in-Ok-eq0-clause-ok : goal.returns-in-Ok-eq0-clause-ok
returns-in-Ok-eq0-clause-ok g c = λ most left t.
    let b = c.read.new.buf in
    let one : length c.read.new.buf ≡ 1 = c.read.auto.buf in
    let held = c.args.held.items in
    let size = t.taken.size in
    let most_few : most < 4294967294 = t.few in
    let few : length t.taken.front + length held < 4294967295 = omega (arith, size, most_few) in
    let bytes = c.in-Ok-eq0.ensures.bytes in
    let ok = rw c.deref.ensures.value at c.finish.ensures.ok in
    IfOk-weaker c.finish.result (λ h. IsReadAs (t.taken.front ++ held) h) (λ h. TookReport most left (g.S.Source.left c.read.new.self) h)
    (λ h w. took_report most left (g.S.Source.left c.read.new.self) c.args.draft held h
    (ended_at most left (g.S.Source.left c.args.src.now) (g.S.Source.left c.read.new.self) c.args.draft held b c.in-Ok-eq0.field-0 c.in-Ok-eq0.field-0-test (omega (arith, one)) bytes.0 bytes.1 t) w)
    (ok t.taken.front t.taken.lines few)

pub returns-in-Ok-eq0-clause-err : goal.returns-in-Ok-eq0-clause-err
returns-in-Ok-eq0-clause-err g c = λ most left t.
    let b = c.read.new.buf in
    let one : length c.read.new.buf ≡ 1 = c.read.auto.buf in
    let held = c.args.held.items in
    let size = t.taken.size in
    let most_few : most < 4294967294 = t.few in
    let few : length t.taken.front + length held < 4294967295 = omega (arith, size, most_few) in
    let bytes = c.in-Ok-eq0.ensures.bytes in
    let err = rw c.deref.ensures.value at c.finish.ensures.err in
    let before = g.S.Source.faults c.args.src.now in
    let now = g.S.Source.faults c.read.new.self in
    IfErr-weaker c.finish.result (λ e. IsNone (t.taken.front ++ held) e) (λ e. TookNone most left (g.S.Source.left c.read.new.self) before now e)
    (λ e w. took_none most left (g.S.Source.left c.read.new.self) c.args.draft held before now e
    (ended_at most left (g.S.Source.left c.args.src.now) (g.S.Source.left c.read.new.self) c.args.draft held b c.in-Ok-eq0.field-0 c.in-Ok-eq0.field-0-test (omega (arith, one)) bytes.0 bytes.1 t) w)
    (err t.taken.front t.taken.lines few)

pub returns-clause-err : goal.returns-clause-err
returns-clause-err g c = λ most left t.
    let b = c.read.new.buf in
    let one : length c.read.new.buf ≡ 1 = c.read.auto.buf in
    let size : c.len-within.result ≡ length c.args.held.items = search rules in
    let all = c.deref-in-Ok.ensures.value ∙ c.in_ok-extend_from_slice-in-Ok.ensures.items in
    long_at most left (g.S.Source.left c.args.src.now) (g.S.Source.left c.read.new.self) c.args.draft c.args.held.items b c.deref-in-Ok.result.now
    c.in-Ok.field-0 c.len-within.result (g.S.Source.faults c.args.src.now) (g.S.Source.faults c.read.new.self) c.refuse_long.result
    c.in-Ok.ensures.bound.0 c.in-Ok.field-0-test.1 one c.in-Ok.ensures.bytes.0 all size t
    (c.refuse_long.ensures t.taken.front t.taken.lines (long_few most left (g.S.Source.left c.args.src.now) c.args.draft c.args.held.items b c.deref-in-Ok.result.now one all t))
