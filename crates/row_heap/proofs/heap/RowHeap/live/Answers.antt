-- The rows that don't stand are those of the freed objects.
use Rattle.std.proofs.Common.{arith}
use Rattle.row_heap.proofs.Sound.{rows-most, stand-count}
use Rattle.std.proofs.lemmas.List.{length-map}
use Rattle.row_heap.proofs.heap.RowHeap.live.Goals as goal

pub overflow_sub-result : goal.overflow_sub-result
overflow_sub-result g c = omega (arith, c.made.ensures, c.len.ensures, stand-count g.N.Number.number _ _ _ _ _ c.self.invariant.0.sound)

pub overflow_cast-result : goal.overflow_cast-result
overflow_cast-result g c = omega (arith, c.made.ensures, rows-most _ _ _ _ _ c.self.invariant.0.sound)

pub returns : goal.returns
returns g c = rw (← c.self.view_is) (omega (
  arith,
  c.made.ensures,
  c.len.ensures,
  c.self.invariant.0.sound.flags.count,
  length-map c.self.inside.rows (λ r. r.fields),
  length-map c.self.inside.freed.items g.N.Number.number,
))
