use Rattle.std.proofs.Common.{take, drop, ◌+◌, ◌++◌, subst}
use Rattle.std.proofs.lemmas.Result.{IfErr-weaker}
use Rattle.byte_streams.proofs.Bytes.{rest_of}
use Rattle.byte_streams.proofs.Passing.{passed_on}
use Rattle.bridge_script.specs.Scripts.{script_text_of}
use Rattle.bridge_script.specs.Steps.{StopsWithin, taken}
use Rattle.bridge_script.proofs.Pieces.{behind_piece, with_piece}
use Rattle.bridge_script.proofs.drafts.Draft.take.Goals as goal

pub returns-in_err-end_line-clause-err : goal.returns-in_err-end_line-clause-err
returns-in_err-end_line-clause-err c =
    let piece = c.args.piece.now in
    let rest = drop (c.in-Some.n + 1) piece in
    let old = c.args.self.now in
    let e = c.in_err-end_line.field-0.0 in
    let err = rw c.in_ok-hold.ensures.ok at (c.in_err-end_line.ensures.err rest) in
    rw (passed_on c.from_residual-in_err-end_line.result e c.from_residual-in_err-end_line.ensures.0 c.from_residual-in_err-end_line.ensures.1)
    (subst (λ t. StopsWithin t e) (with_piece (script_text_of old.script) old.held (take c.in-Some.n piece) rest piece c.in-Some.ensures.whole) err)

pub returns-clause-err : goal.returns-clause-err
returns-clause-err c =
    let piece = c.args.piece.now in
    let rest = drop (c.in-Some.n + 1) piece in
    let old = c.args.self.now in
    let mid = c.end_line.new.self in
    let text = rw c.in_ok-hold.ensures.ok at c.in_ok-end_line.ensures.text in
    let same = behind_piece (script_text_of old.script) old.held (take c.in-Some.n piece) rest piece (script_text_of mid.script) c.in-Some.ensures.whole text in
    let err = rw (rest_of (c.in-Some.n + 1) piece) at c.read_lines.ensures.err in
    IfErr-weaker c.read_lines.result (λ e. StopsWithin (taken mid ++ rest) e) (λ e. StopsWithin (taken old ++ piece) e)
    (λ e w. subst (λ t. StopsWithin t e) same (rw c.in_ok-end_line.ensures.held at w)) err
