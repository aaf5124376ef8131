-- What stands beside the row.
use Rattle.std.proofs.Common.{◌∙◌, sym, arith}
use Rattle.managed_heap.proofs.Lists.{has_handle-at}
use Rattle.managed_heap.proofs.resolving.holds.Goals as goal

pub returns : goal.returns
returns c = c.is_some.ensures ∙ sym (has_handle-at c.args.headers.now c.args.m.0 _ (omega (arith, c.if-m-eq0.false)) (omega (arith, c.if-m-headers.false)))
