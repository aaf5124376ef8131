-- Each case is the definition's.
use Rattle.std.proofs.Common.{◌∙◌, arith}
use Rattle.row_heap.proofs.Cases.{set-none, set-range, set-stored}
use Rattle.row_heap.proofs.heap.RowHeap.set.Goals as goal

pub returns-in-None-clause-done : goal.returns-in-None-clause-done
returns-in-None-clause-done g c = λ name. set-none _ _ _ _ c.in-None.ensures.value

pub returns-then-fields_len-i-clause-done : goal.returns-then-fields_len-i-clause-done
returns-then-fields_len-i-clause-done g c = λ name. set-range _ _ _ _ _ c.in-Some.ensures.value (omega (arith, c.fields_len.ensures, c.if-fields_len-i.true))

pub returns-else-fields_len-i-clause-done : goal.returns-else-fields_len-i-clause-done
returns-else-fields_len-i-clause-done g c = λ name. set-stored c.args.self.now.heap c.args.v c.args.i c.args.w c.in-Some.x c.in-Some.ensures.value
    (omega (arith, c.fields_len.ensures, c.if-fields_len-i.false)) ∙ c.store_field.ensures.done name
