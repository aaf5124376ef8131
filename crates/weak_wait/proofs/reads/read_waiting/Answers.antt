use Rattle.std.proofs.Common.{subst}
use Rattle.weak_wait.specs.Reads.{Answers}
use Rattle.weak_wait.proofs.Making.{answers_from}
use Rattle.weak_wait.proofs.reads.read_waiting.Goals as goal

pub returns-in-Some-try_read-clause-answers : goal.returns-in-Some-try_read-clause-answers
returns-in-Some-try_read-clause-answers g c = let i = c.loop.invariant in
    subst (λ es. Answers c.args.reader c.args.index c.args.act.now c.in-Some-try_read.made.0 c.in-Some-try_read.made.1 c.args.seat.now.view c.try_read.new.seat.view es c.try_read.new.entries) i.7
    (answers_from c.args.reader c.args.index c.args.act.now c.in-Some-try_read.made.0 c.in-Some-try_read.made.1 c.args.seat.now.view
    c.loop.seat.view c.try_read.new.seat.view c.loop.entries c.try_read.new.entries i.3 i.4 i.5 c.in-Some-try_read.ensures.answers)
