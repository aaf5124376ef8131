-- Each case is the definition's.
use Rattle.std.proofs.Common.{◌∙◌, arith}
use Rattle.row_heap.proofs.Cases.{got-none, got-range, got-read}
use Rattle.row_heap.proofs.heap.RowHeap.get.Goals as goal

pub returns-in-None-clause-done : goal.returns-in-None-clause-done
returns-in-None-clause-done g c = λ name. got-none name _ _ _ _ c.in-None.ensures.value

pub returns-then-fields_len-i-clause-done : goal.returns-then-fields_len-i-clause-done
returns-then-fields_len-i-clause-done g c = λ name. got-range name _ _ _ _ _ c.in-Some.ensures.value (omega (arith, c.fields_len.ensures, c.if-fields_len-i.true))

pub returns-else-fields_len-i-clause-done : goal.returns-else-fields_len-i-clause-done
returns-else-fields_len-i-clause-done g c = λ name. got-read name _ _ _ _ _ _ c.in-Some.ensures.value (omega (arith, c.fields_len.ensures, c.if-fields_len-i.false)) c.field-y.ensures.value
    ∙ c.read.ensures.done name
