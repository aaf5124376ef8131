-- Case by case, as a write goes.
use Rattle.std.proofs.Common.{◌∙◌, sym, arith}
use Rattle.row_heap.proofs.Cases.{over-empty, over-given, over-none, over-range}
use Rattle.row_heap.proofs.heap.RowHeap.overwritten.Goals as goal

pub returns-in-None-clause-value : goal.returns-in-None-clause-value
returns-in-None-clause-value g c = sym (over-none c.args.self.now.heap c.args.v c.args.i c.args.w c.in-None.ensures.value)

pub returns-then-fields_len-i-clause-value : goal.returns-then-fields_len-i-clause-value
returns-then-fields_len-i-clause-value g c = sym (over-range c.args.self.now.heap c.args.v c.args.i c.args.w c.in-Some.x c.in-Some.ensures.value
    (omega (arith, c.fields_len.ensures, c.if-fields_len-i.true)))

pub returns-then-is_given-clause-value : goal.returns-then-is_given-clause-value
returns-then-is_given-clause-value g c =
    sym c.field.ensures.value ∙ sym (over-given c.args.self.now.heap c.args.v c.args.i c.args.w c.in-Some.x c.in-Some.ensures.value
    (omega (arith, c.fields_len.ensures, c.if-fields_len-i.false)) (sym c.is_given.ensures ∙ c.if-is_given.true))

pub returns-else-is_given-clause-value : goal.returns-else-is_given-clause-value
returns-else-is_given-clause-value g c =
    sym (over-empty c.args.self.now.heap c.args.v c.args.i c.args.w c.in-Some.x c.in-Some.ensures.value
    (omega (arith, c.fields_len.ensures, c.if-fields_len-i.false)) (sym c.is_given.ensures ∙ c.if-is_given.false))
