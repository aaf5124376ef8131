-- The further places have 0, as places past the end do.
use Rattle.std.proofs.Common.{◌+◌, arith}
use Rattle.row_heap.proofs.Linked.{firsts-filled}
use Rattle.row_heap.proofs.references.lengthen.Goals as goal

pub returns-clause-firsts : goal.returns-clause-firsts
returns-clause-firsts c = firsts-filled c.args.objects.now.items c.resize.new.self.items (c.args.x + 1) _
    (omega (arith, c.requires.past)) (rw (c.resize.ensures.succeeds (omega (arith, c.requires.room))) at c.resize.ensures.items)
