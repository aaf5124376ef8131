-- An object is live exactly where its row stands.
use Rattle.std.proofs.Common.{◌∙◌, sym}
use Rattle.row_heap.proofs.Sound.{live-stands, stands-live}
use Rattle.row_heap.proofs.heap.RowHeap.is_live.Goals as goal

pub returns : goal.returns
returns g c = rw (← c.self.view_is) (
  (λ t. stands-live _ _ _ _ _ c.args.x c.self.invariant.0.sound (sym c.stands.ensures ∙ t)),
  (λ l. c.stands.ensures ∙ live-stands _ _ _ _ _ c.args.x c.self.invariant.0.sound l),
)
