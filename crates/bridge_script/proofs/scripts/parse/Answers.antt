use Rattle.byte_streams.proofs.Passing.{passed_on}
use Rattle.bridge_script.proofs.Pieces.{refused_within}
use Rattle.bridge_script.proofs.scripts.parse.Goals as goal

pub returns-in_err-take-clause-err : goal.returns-in_err-take-clause-err
returns-in_err-take-clause-err c =
    let e = c.in_err-take.field-0.0 in
    rw (passed_on c.from_residual.result e c.from_residual.ensures.0 c.from_residual.ensures.1)
    (refused_within c.args.bytes.now e (rw c.new-draft.ensures at c.in_err-take.ensures.err))
