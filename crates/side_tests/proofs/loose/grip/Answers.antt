-- The four events, one after another.
use Rattle.side_tests.proofs.Holding.{gripped-by}
use Rattle.side_tests.proofs.loose.grip.Goals as goal

pub returns-clause-state : goal.returns-clause-state
returns-clause-state c =
    gripped-by c.args.side.now.state c.makes.new.side.state c.makes-2.new.side.state c.makes-3.new.side.state c.makes-4.new.side.state
    c.in_ok-makes.ensures.state c.in_ok-makes-2.ensures.state c.in_ok-makes-3.ensures.state c.in_ok-makes-4.ensures.state
