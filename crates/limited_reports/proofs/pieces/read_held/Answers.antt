use Rattle.std.proofs.Common.{arith}
use Rattle.limited_reports.proofs.pieces.read_held.Goals as goal

pub overflow_sub-read : goal.overflow_sub-read
overflow_sub-read c =
    let w = rw c.deref.ensures.value at c.in_ok-left.ensures.within in
    let n = c.len.ensures in
    omega (arith, w, n)
