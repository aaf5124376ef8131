-- One more root is marked in each turn.
use Rattle.std.proofs.Common.{◌∙◌, arith}
use Rattle.std.proofs.lemmas.List.{take_more}
use Rattle.reachability.proofs.Marking.{Scans-push}
use Rattle.reachability.proofs.mark_all.Goals as goal

pub loop-y-preserved : goal.loop-y-preserved
loop-y-preserved c = record {
  scans = rw (take_more c.args.roots.now c.loop-y.y-index 0 (omega arith)) (Scans-push _ _ _ _ _ _ _ _ c.loop-y.invariant.scans c.visit.ensures.scans);
  capacity = c.visit.ensures.capacity ∙ c.loop-y.invariant.capacity;
}
