-- What a finding says, by its number.
use Rattle.std.proofs.Common.{◌≡◌, ℕ, subst, sym, arith}
use Rattle.bridge_graph.specs.declared.packing.Link.{Link}
use Rattle.cycle_check.specs.declared.outcome.Outcome.{Outcome}
use Rattle.cycle_check.specs.declared.outcome.Outcome.TheVariants.{Obeys, Torn, Early, Left}
use Rattle.cycle_check.specs.Judging.{IsEarly, Says}
use Rattle.pass_c.specs.Answered.{IsAnswered}

pub early-told : (edge : ℕ → ℕ → Type 0) (kept lost judged dead : ℕ → Type 0) (o : Outcome) (status : ℕ) (old new : Link)
    → IsAnswered o status old new → Says edge kept lost judged dead o → status ≡ 9 → IsEarly edge kept lost judged dead new.from new.to
early-told edge kept lost judged dead Obeys status old new a s z = absurd (let e = a.0 in omega (arith, e, z))
early-told edge kept lost judged dead (Torn x y) status old new a s z = absurd (let e = a.0 in omega (arith, e, z))
early-told edge kept lost judged dead (Early x y) status old new a s z =
    let Told : Link → Type 0 = λ l. IsEarly edge kept lost judged dead l.from l.to in subst Told (sym a.1) s
early-told edge kept lost judged dead (Left y) status old new a s z = absurd (let e = a.0 in omega (arith, e, z))
