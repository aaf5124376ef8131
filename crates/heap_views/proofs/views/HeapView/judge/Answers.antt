use Rattle.std.proofs.Common.{refl}
use Rattle.heap_views.proofs.Seeing.{judged}
use Rattle.heap_views.proofs.views.HeapView.judge.Goals as goal

pub returns : goal.returns
returns c = rw (c.is_lawful.ensures, ← c.self.view_is) (judged c.in_ok-verdict.verdict c.args.h.now c.args.entry.now _ _ c.in_ok-verdict.ensures.verdict refl refl)
