-- The row of the object is written, and what the field holds from now on is live.
use Rattle.std.proofs.Common.{ap, length, arith}
use Rattle.std.proofs.lemmas.List.{length-set}
use Rattle.row_heap.specs.Places.{row_at}
use Rattle.row_heap.proofs.FieldCounts.{count-set}
use Rattle.row_heap.proofs.Sound.{live-stands, fields-seen, seen-written, IsRowHeap-written}
use Rattle.row_heap.proofs.heap.RowHeap.set_field.Goals as goal

pub set_field-requires-clause-stands : goal.set_field-requires-clause-stands
set_field-requires-clause-stands g c = live-stands _ _ _ _ _ c.args.x c.self.invariant.0.sound (rw (← c.self.view_is) at c.requires.live)

pub set_field-requires-clause-index : goal.set_field-requires-clause-index
set_field-requires-clause-index g c = omega (arith, c.requires.index, ap length (fields-seen _ _ _ _ c.self.inside.references _ c.args.self.now c.args.x c.self.view_is))

pub invariant_of-self : goal.invariant_of-self
invariant_of-self g c = (
  rw c.set_field.ensures (IsRowHeap-written _ _ _ _ c.self.inside.references _ _ c.args.x c.args.i c.args.y c.self.invariant.0 (rw (← c.self.view_is) at c.requires.live)
      (rw (← c.self.view_is) at c.requires.target)),
  c.self.invariant.1,
  count-set _ _ _ c.args.x _ c.set_field.ensures (length-set (row_at c.self.inside.rows c.args.x).fields c.args.i c.args.y) c.self.invariant.2,
)

pub returns : goal.returns
returns g c = seen-written _ _ _ _ _ c.self.inside.references _ c.args.self.now c.args.x c.args.i c.args.y c.self.view_is c.set_field.ensures
