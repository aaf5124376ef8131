use Rattle.std.proofs.Common.{◌-◌, arith}
use Rattle.global_handles.proofs.Chains.{with_next-zero, with_next-set}
use Rattle.global_handles.proofs.set_next.Goals as goal

pub returns-then-at-eq0-clause-items : goal.returns-then-at-eq0-clause-items
returns-then-at-eq0-clause-items c = with_next-zero c.args.slots.now.items c.args.at c.args.next (omega arith)

pub returns-clause-items : goal.returns-clause-items
returns-clause-items c = with_next-set c.args.slots.now.items (c.args.at - 1) c.args.at c.args.next c.index_mut.result.now (omega arith) c.index_mut.ensures.value
