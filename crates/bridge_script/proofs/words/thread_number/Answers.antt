use Rattle.std.proofs.Common.{◌≡◌, drop, decimal, ap, arith, sym, ◌∙◌}
use Rattle.std.proofs.lemmas.Fmt.{decimal_injective}
use Rattle.bridge_script.proofs.words.thread_number.Goals as goal

pub returns-in_default : goal.returns-in_default
returns-in_default c = λ n l m e.
    let t : decimal n ≡ decimal c.in-Some.n = ap (drop 1) (e ∙ sym c.in-Some.ensures.1) in
    let same = decimal_injective n c.in-Some.n (omega arith) (omega (arith, c.in-Some.ensures.0)) t in
    omega arith
