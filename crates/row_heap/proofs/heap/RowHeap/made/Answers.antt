-- There are as many objects as rows.
use Rattle.std.proofs.Common.{◌∙◌, sym, arith}
use Rattle.row_heap.proofs.Sound.{made-seen, rows-most}
use Rattle.row_heap.proofs.heap.RowHeap.made.Goals as goal

pub overflow_cast-result : goal.overflow_cast-result
overflow_cast-result g c = omega (arith, c.made.ensures, rows-most _ _ _ _ _ c.self.invariant.0.sound)

pub returns-clause-made : goal.returns-clause-made
returns-clause-made g c = c.made.ensures ∙ sym (made-seen _ _ _ _ c.self.inside.references _ c.args.self.now c.self.view_is)

pub returns-clause-most : goal.returns-clause-most
returns-clause-most g c = omega (arith, c.made.ensures, rows-most _ _ _ _ _ c.self.invariant.0.sound)
