use Rattle.std.proofs.Common.{◌≡◌, decimal, sym, ◌∙◌, arith}
use Rattle.std.proofs.lemmas.Fmt.{decimal_injective}
use Rattle.log_text.proofs.said.take_count.Goals as goal

pub returns-else-n-lt4294967296 : goal.returns-else-n-lt4294967296
returns-else-n-lt4294967296 c = λ n rest l e.
    let d : decimal n ≡ c.in_ok-next-2.field-0.now = (let a = c.in_ok-next.ensures in let b = c.in_ok-next-2.ensures in cc) in
    let q = decimal_injective n c.in_ok-n.n (omega arith) c.in_ok-n.ensures.0 (d ∙ sym c.in_ok-n.ensures.1) in
    omega arith
