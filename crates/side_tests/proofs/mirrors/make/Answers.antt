-- One more pair.
use Rattle.side_tests.specs.Circles.{with_pair}
use Rattle.side_tests.proofs.mirrors.make.Goals as goal

pub returns-clause-state : goal.returns-clause-state
unfolding with_pair
returns-clause-state c = c.in_ok-makes.ensures.state
