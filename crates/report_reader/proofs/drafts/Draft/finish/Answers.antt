use Rattle.std.proofs.Common.{◌+◌, ◌<◌, length, ap, ◌∙◌, arith}
use Rattle.byte_streams.proofs.Passing.{passed_on}
use Rattle.history_report.specs.Report.{end_text}
use Rattle.report_reader.proofs.Reaching.{end_refused, read_within, whole_text}
use Rattle.report_reader.proofs.drafts.Draft.finish.Goals as goal

pub read_lines-requires : goal.read_lines-requires
read_lines-requires c =
    let r = c.requires.read in
    let e = read_within r.0 c.args.self r.1 in
    let s : length r.0 + length c.args.bytes.now < 4294967295 = r.2 in
    record { few = omega (arith, e, s) }

pub judge_end-requires-clause-few : goal.judge_end-requires-clause-few
judge_end-requires-clause-few c =
    let r = c.requires.read in
    let e = read_within r.0 c.args.self r.1 in
    let s : length r.0 + length c.args.bytes.now < 4294967295 = r.2 in
    let f = c.in_ok-left.ensures.few in
    let n = c.len.ensures in
    omega (arith, e, s, f, n)

pub returns-in_err-judge_end-clause-err : goal.returns-in_err-judge_end-clause-err
returns-in_err-judge_end-clause-err c = λ front a s.
    rw (passed_on c.from_residual-in_err-judge_end.result c.in_err-judge_end.field-0.0 c.from_residual-in_err-judge_end.ensures.0 c.from_residual-in_err-judge_end.ensures.1)
    (end_refused front c.args.bytes.now c.in_ok-left.left.now c.read_lines.new.self c.in_err-judge_end.field-0.0 s
    (c.in_ok-left.ensures.ok front a) (rw c.len.ensures at c.in_err-judge_end.ensures))

pub history-requires : goal.history-requires
history-requires c =
    let r = c.requires.read in
    (whole_text r.0 c.args.bytes.now c.in_ok-left.left.now c.read_lines.new.self r.2 (c.in_ok-left.ensures.ok r.0 r.1)
    (c.in_ok-judge_end.ensures ∙ ap end_text c.len.ensures)).canonical.value.history

pub returns-clause-ok : goal.returns-clause-ok
returns-clause-ok c = λ front a s.
    rw c.in_ok-history.ensures (whole_text front c.args.bytes.now c.in_ok-left.left.now c.read_lines.new.self s (c.in_ok-left.ensures.ok front a)
    (c.in_ok-judge_end.ensures ∙ ap end_text c.len.ensures))
