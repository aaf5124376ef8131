-- One more root is marked in each turn.
use Rattle.std.proofs.Common.{◌∙◌, arith}
use Rattle.std.proofs.lemmas.List.{take_more}
use Rattle.row_marking.proofs.Greys.{Greyed-push}
use Rattle.row_marking.proofs.mark_roots.Goals as goal

pub loop-y-preserved : goal.loop-y-preserved
loop-y-preserved g c = record {
  kept = c.visit.ensures.kept ∙ c.loop-y.invariant.kept;
  greyed = rw (take_more c.args.roots.now c.loop-y.y-index 0 (omega arith)) (Greyed-push _ _ _ _ _ _ _ _ _ _ _ c.loop-y.invariant.greyed c.visit.ensures.greyed);
}
