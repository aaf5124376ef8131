use Rattle.std.proofs.Common.{take}
use Rattle.heap_views.specs.Views.{Seen, opening_view}
use Rattle.heap_views.proofs.views.view_after.Given as goal

abbrev pub invariant-loop-i : goal.invariant-loop-i
invariant-loop-i l = Seen l.h opening_view (take l.i l.h.entries) l.view
