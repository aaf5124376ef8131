-- Where there is no memory nothing is said of a reply.
use Rattle.std.proofs.lemmas.Result.{IfOk-from_err}
use Rattle.managed_heap.proofs.rows.ManagedRows.adopt.Goals as goal

pub returns-in_err-x-clause-answer : goal.returns-in_err-x-clause-answer
returns-in_err-x-clause-answer c = IfOk-from_err c.from_residual.result _ c.from_residual.ensures.0
