use Rattle.std.proofs.Common.{◌≡◌, ◌+◌, ◌<◌, ◌++◌, ℕ, List, length, subst, arith}
use Rattle.report_reader.specs.Answers.{IsReportRefusal}
use Rattle.report_reader.specs.Steps.{AreRead, Read}
use Rattle.text_limits.specs.Limits.{IsFrontOf}
use Rattle.text_limits.proofs.ClosedLines.{lines_in}
use Rattle.limited_reports.proofs.Fronts.{answered, front_behind, front_few, lines_behind, lines_few, whole-before}
use Rattle.limited_reports.proofs.limits.refuse_long.Goals as goal

pub finish-requires : goal.finish-requires
finish-requires c =
    let r = c.requires.read in
    let s : length r.0 + length c.args.bytes.now < 4294967295 = r.2 in
    let f = front_few c.args.most c.args.bytes.now c.front_of-front.result.now c.front_of-front.ensures in
    record { read = (r.0, r.1, omega (arith, s, f)) }

pub overflow_add-count : goal.overflow_add-count
overflow_add-count c =
    let r = c.requires.read in
    let s : length r.0 + length c.args.bytes.now < 4294967295 = r.2 in
    let few = lines_few c.args.most r.0 c.args.bytes.now c.front_of-front.result.now c.args.draft r.1 c.front_of-front.ensures in
    let a = c.len-before.ensures in
    let b : c.newlines.result ≡ lines_in c.front_of-front.result.now = c.newlines.ensures in
    omega (arith, s, few, a, b)

pub overflow_add-result : goal.overflow_add-result
overflow_add-result c =
    let r = c.requires.read in
    let s : length r.0 + length c.args.bytes.now < 4294967295 = r.2 in
    let few = lines_few c.args.most r.0 c.args.bytes.now c.front_of-front.result.now c.args.draft r.1 c.front_of-front.ensures in
    let a = c.len-before.ensures in
    let b : c.newlines.result ≡ lines_in c.front_of-front.result.now = c.newlines.ensures in
    omega (arith, s, few, a, b)

-- the number of the lines before the limit
counted : (front before : List ℕ) (read : Read) (entries lines : ℕ) → AreRead front read → entries ≡ length read.entries → lines ≡ lines_in before → entries + lines ≡ lines_in (front ++ before)
counted front before read entries lines a e l = (let n = lines_behind front before read a in omega (arith, n, e, l))

-- they are few enough to be read
few : (most : ℕ) (front bytes before : List ℕ) → IsFrontOf most bytes before → length front + length bytes < 4294967295 → length front + length before < 4294967295
few most front bytes before cut s = (let n = front_few most bytes before cut in omega (arith, n, s))

pub returns-in-Ok : goal.returns-in-Ok
returns-in-Ok c = λ front a s.
    let bytes = c.args.bytes.now in
    let before = c.front_of-front.result.now in
    let cut = c.front_of-front.ensures in
    whole-before (length front + c.args.most) (front ++ bytes) (front ++ before) (front_behind c.args.most front bytes before c.args.draft a cut) c.in-Ok.field-0
    (c.len-before.result + c.newlines.result) (counted front before c.args.draft c.len-before.result c.newlines.result a c.len-before.ensures c.newlines.ensures)
    (c.in-Ok.ensures.ok front a (few c.args.most front bytes before cut s))

pub returns-in-Err-Refused : goal.returns-in-Err-Refused
returns-in-Err-Refused c = λ front a s.
    let bytes = c.args.bytes.now in
    let before = c.front_of-front.result.now in
    let cut = c.front_of-front.ensures in
    let refused = c.in-Err-Refused.ensures.err front a (few c.args.most front bytes before cut s) in
    answered (length front + c.args.most) (front ++ bytes) (front ++ before) (front_behind c.args.most front bytes before c.args.draft a cut) c.in-Err-Refused.fault
    (c.len-before.result + c.newlines.result) c.within.result
    (counted front before c.args.draft c.len-before.result c.newlines.result a c.len-before.ensures c.newlines.ensures)
    (subst (IsReportRefusal (front ++ before)) c.in-Err-Refused.field-0-is refused).0 c.within.ensures.here c.within.ensures.behind
