use Rattle.cycle_check.specs.Judging.{IsLost}
use Rattle.cycle_check.proofs.Holding.{held-pair, held-reached, held-whole, roots-within}
use Rattle.cycle_check.proofs.outcome.torn_pair.Goals as goal

pub returns-in_default : goal.returns-in_default
returns-in_default c = held-whole c.args.kinds.now c.args.starts.now c.args.targets.now c.args.kept.now c.args.marks.now c.args.roots.now c.requires.held c.in_default.ensures

pub first_root-requires-clause-roots : goal.first_root-requires-clause-roots
first_root-requires-clause-roots c = roots-within c.args.kinds.now c.args.starts.now c.args.targets.now c.args.kept.now c.args.marks.now c.args.roots.now c.requires.held c.requires.rows.count

pub first_root-requires-clause-reached : goal.first_root-requires-clause-reached
first_root-requires-clause-reached c = held-reached c.args.kinds.now c.args.starts.now c.args.targets.now c.args.kept.now c.args.marks.now c.args.roots.now c.in-Some.y c.requires.held c.in-Some.ensures.1.0

pub returns : goal.returns
returns c = held-pair c.args.kinds.now c.args.starts.now c.args.targets.now c.args.kept.now c.args.marks.now c.args.roots.now (IsLost c.args.kinds.now c.args.kept.now) c.in_ok-x.x c.in-Some.y c.requires.held c.in_ok-x.ensures.root c.in_ok-x.ensures.reaches c.in-Some.ensures.1.1
