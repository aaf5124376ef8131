-- The test is the definition's.
use Rattle.std.proofs.Common.{◌-◌, ◌∙◌, sym, ap, arith}
use Rattle.std.specs.Prelude.{if◌then◌else◌}
use borrow.Author.Tests.{leb-true}
use Rattle.row_heap.specs.declared.references.End.TheVariants.{Object, Temporary}
use Rattle.row_heap.proofs.references.unpack_end.Goals as goal

pub overflow_sub-result : goal.overflow_sub-result
overflow_sub-result c = omega (arith, leb-true 65536 c.args.n (sym c.is_temporary.ensures ∙ c.if-is_temporary.true))

pub returns-then-is_temporary : goal.returns-then-is_temporary
returns-then-is_temporary c = ap (λ b. if b then Temporary (c.args.n - 65536) else Object c.args.n) (sym c.if-is_temporary.true ∙ c.is_temporary.ensures)

pub returns-else-is_temporary : goal.returns-else-is_temporary
returns-else-is_temporary c = ap (λ b. if b then Temporary (c.args.n - 65536) else Object c.args.n) (sym c.if-is_temporary.false ∙ c.is_temporary.ensures)
