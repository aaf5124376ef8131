-- The counts and the sets are those of the loop.
use Rattle.std.proofs.Common.{arith}
use Rattle.std.proofs.lemmas.List.{take_at}
use Rattle.component_pass.proofs.counting.fill.Goals as goal

pub returns-clause-counts : goal.returns-clause-counts
returns-clause-counts c = rw (take_at c.count_all.new.counts _ c.args.reached.now.counts.len (omega arith)) c.count_all.ensures.counts

pub returns-clause-referred : goal.returns-clause-referred
returns-clause-referred c = rw (take_at c.count_all.new.refs _ c.args.reached.now.refs.len (omega arith)) c.count_all.ensures.referred
