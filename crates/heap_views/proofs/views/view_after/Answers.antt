use Rattle.std.proofs.Common.{sym, ◌∙◌, arith}
use Rattle.heap_views.proofs.Seeing.{there-is}
use Rattle.heap_views.proofs.views.view_after.Goals as goal

pub unreachable-requires : goal.unreachable-requires
unreachable-requires c = there-is c.args.h.now.entries c.loop-i.i (omega (arith, c.loop-i-test.true, c.requires)) (sym c.entry.ensures ∙ c.in-None.is)
