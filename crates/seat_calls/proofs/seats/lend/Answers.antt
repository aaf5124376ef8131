use Rattle.seat_calls.proofs.Handing.{lends}
use Rattle.seat_calls.proofs.seats.lend.Goals as goal

pub returns-clause-lent : goal.returns-clause-lent
returns-clause-lent c = lends c.args.t _ _ _ _ c.hand-pass.result.view c.hand-pass.ensures.parts c.learn.ensures.takes c.learn.ensures.one_history
