use Rattle.std.proofs.Common.{◌+◌, ◌++◌, ◌∙◌, ap, sym, subst, arith, drop}
use Rattle.byte_streams.proofs.Passing.{passed_on}
use Rattle.bridge_script.specs.Scripts.{script_text_of}
use Rattle.bridge_script.specs.Steps.{StopsWithin}
use Rattle.bridge_script.proofs.drafts.Draft.read_lines.Goals as goal

pub overflow_add-end : goal.overflow_add-end
overflow_add-end c = let i = c.loop-n.invariant in omega (arith, c.in-Some.ensures.within, i.short, i.size, c.type_inv.bytes)

pub overflow_add-end-in-Some : goal.overflow_add-end-in-Some
overflow_add-end-in-Some c = let i = c.loop-n.invariant in omega (arith, c.in-Some.ensures.within, i.short, i.size, c.type_inv.bytes)

pub returns-in_err-go_on-clause-err : goal.returns-in_err-go_on-clause-err
returns-in_err-go_on-clause-err c =
    let i = c.loop-n.invariant in
    let left = c.loop-n.left.now in
    let e = c.in_err-go_on.field-0.0 in
    let err = rw c.of.ensures at (c.in_err-go_on.ensures.err (drop (c.in-Some.n + 1) left)) in
    rw (passed_on c.from_residual.result e c.from_residual.ensures.0 c.from_residual.ensures.1)
    (subst (λ t. StopsWithin t e) (ap (λ t. script_text_of c.loop-n.self-inside.script ++ t) (sym c.in-Some.ensures.whole) ∙ i.text) err)
