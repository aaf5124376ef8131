-- The counts are those that were put down.
use Rattle.std.proofs.Common.{arith}
use Rattle.std.proofs.lemmas.List.{take_at}
use Rattle.component_pass.proofs.leading.count_leading.Goals as goal

pub returns-clause-counts : goal.returns-clause-counts
returns-clause-counts c = rw (take_at c.lead.new.ins _ c.in_ok-ins.ins.len (omega arith)) c.in_ok-lead.ensures.counts
