use Rattle.seat_calls.proofs.Handing.{returns}
use Rattle.seat_calls.proofs.seats.give_back.Goals as goal

pub returns-clause-returned : goal.returns-clause-returned
returns-clause-returned c = returns c.args.t _ _ _ _ c.hand-pass.result.view c.hand-pass.ensures.parts c.learn.ensures.takes c.requires.more
