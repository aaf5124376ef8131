-- The first objects are freed, so they were made and aren't live.
use Rattle.std.proofs.Common.{arith}
use Rattle.row_heap.proofs.Gone.{gone-dead, gone-made}
use Rattle.row_heap.proofs.heap.RowHeap.oldest.Goals as goal

pub overflow_add-result : goal.overflow_add-result
overflow_add-result g c = omega (arith, gone-made _ c.self.inside.gone c.self.invariant.0.sound.tidy c.self.invariant.1, c.self.invariant.0.sound.tidy.most)

pub returns-clause-below : goal.returns-clause-below
returns-clause-below g c = rw (← c.self.view_is) (λ x. gone-dead _ c.self.inside.gone x c.self.invariant.1)

pub returns-clause-most : goal.returns-clause-most
returns-clause-most g c = omega (arith, gone-made _ c.self.inside.gone c.self.invariant.0.sound.tidy c.self.invariant.1, c.self.invariant.0.sound.tidy.most)
