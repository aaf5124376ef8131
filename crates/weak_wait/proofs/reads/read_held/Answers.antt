use Rattle.weak_wait.proofs.Making.{may_held}
use Rattle.weak_wait.proofs.reads.read_held.Goals as goal

pub note-number-requires-clause-may : goal.note-number-requires-clause-may
note-number-requires-clause-may c = may_held c.args.seat.now.view c.args.reader c.args.act.now c.args.word c.requires.held.0 c.requires.held.2
