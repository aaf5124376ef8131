-- One after the other.
use Rattle.side_tests.proofs.mirrors.make_both.Goals as goal

pub returns-clause-state : goal.returns-clause-state
returns-clause-state c = rw c.in_ok-make.ensures.state at c.make-2.ensures.state
