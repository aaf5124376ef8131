-- Either way the first handle is held.
use Rattle.side_tests.proofs.Holding.{gripped-held, made-held}
use Rattle.side_tests.proofs.loose.begin.Goals as goal

pub returns-then-gripped-clause-held : goal.returns-then-gripped-clause-held
returns-then-gripped-clause-held c = gripped-held c.grip.result c.args.side.now.state c.grip.new.side.state c.requires.opening c.grip.ensures.state

pub returns-else-gripped-clause-held : goal.returns-else-gripped-clause-held
returns-else-gripped-clause-held c = made-held c.make.result c.args.side.now.state c.make.new.side.state c.requires.opening c.make.ensures.state
