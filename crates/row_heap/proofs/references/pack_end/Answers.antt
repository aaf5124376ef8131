-- Objects come first, and temporaries behind them.
use Rattle.std.proofs.Common.{◌∙◌, sym, subst, arith}
use Rattle.row_heap.specs.Packed.{IsSmall}
use Rattle.row_heap.proofs.Packs.{object-packed, temporary-packed}
use Rattle.row_heap.proofs.references.pack_end.Goals as goal

pub returns-in-Object : goal.returns-in-Object
returns-in-Object c = object-packed c.in-Object.x (subst IsSmall c.in-Object.is c.requires) ∙ sym c.in-Object.is

pub overflow_add-result : goal.overflow_add-result
overflow_add-result c = (let small = subst IsSmall c.in-Temporary.is c.requires in omega (arith, small))

pub returns-in-Temporary : goal.returns-in-Temporary
returns-in-Temporary c = temporary-packed c.in-Temporary.t ∙ sym c.in-Temporary.is
