use Rattle.std.proofs.Common.{sym, ◌∙◌}
use Rattle.heap_views.proofs.Seeing.{goes-moves, if_ok}
use Rattle.heap_views.proofs.views.HeapView.go.Goals as goal

pub returns-then-is_step : goal.returns-then-is_step
returns-then-is_step c = if_ok c.judge.result _ _ (λ went m. goes-moves went c.args.h.now c.args.entry.now _ _ (sym c.is_step.ensures ∙ c.if-is_step.true) m) c.judge.ensures
