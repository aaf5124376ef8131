use Rattle.std.proofs.Common.{◌≡◌, sym, ◌∙◌, arith}
use Rattle.std.proofs.lemmas.Fmt.{decimal_injective}
use Rattle.picture_program.proofs.words.two_entries.Goals as goal

pub returns-else-n-m : goal.returns-else-n-m
returns-else-n-m c n m t =
    let first : c.in-Some.n ≡ n = decimal_injective c.in-Some.n n (omega (arith, c.in-Some.ensures.0)) (omega (arith, t.order, t.short)) (c.in-Some.ensures.1 ∙ sym t.first) in
    let second : c.in-Some-number_at.m ≡ m = decimal_injective c.in-Some-number_at.m m
    (omega (arith, c.in-Some-number_at.ensures.0)) (omega (arith, t.short)) (c.in-Some-number_at.ensures.1 ∙ sym t.second) in
    omega (arith, first, second, t.order, c.if-n-m.false)
