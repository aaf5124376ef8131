-- What stands beside the row.
use Rattle.std.proofs.Common.{◌∙◌, sym, arith}
use Rattle.managed_heap.proofs.Lists.{has_peer-at}
use Rattle.managed_heap.proofs.resolving.has_peer.Goals as goal

pub returns : goal.returns
returns c = c.is_some.ensures ∙ sym (has_peer-at c.args.headers.now c.args.m.0 _ (omega (arith, c.if-m-eq0.false)) (omega (arith, c.if-m-headers.false)))
