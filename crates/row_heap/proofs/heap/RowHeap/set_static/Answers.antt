-- What a slot names from now on is live.
use Rattle.heap_rules.proofs.Sound.{IsSound-static}
use Rattle.row_heap.proofs.heap.RowHeap.set_static.Goals as goal

pub invariant_of-self : goal.invariant_of-self
invariant_of-self g c = (
  record {
    sound = IsSound-static _ _ _ c.args.s c.args.x c.self.invariant.0.sound (rw (← c.self.view_is) at c.requires.live);
    references = c.self.invariant.0.references;
  },
  c.self.invariant.1,
  c.self.invariant.2,
)
