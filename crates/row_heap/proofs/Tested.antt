-- What the test of a number for a row's says.
use Rattle.std.proofs.Common.{◌≡◌, ℕ, ◌≤◌, ◌<◌, Bool, true, false, not, leb, eqb, sym, ◌∙◌, arith}
use borrow.Author.Tests.{both_ways, eq-eqb, leb-false, leb-true, not-true}

pub number-in : (x n m : ℕ) (b : Bool) → (x ≡ 0 → ⊥) → b ≡ leb x m → m ≡ n → b ≡ true → (1 ≤ x) × (x ≤ n)
number-in x n m b some is made up = (omega (arith, some), omega (arith, leb-true x m (sym is ∙ up), made))

pub number-past : (x n m : ℕ) (b : Bool) → b ≡ leb x m → m ≡ n → b ≡ false → n < x
number-past x n m b is made down = omega (arith, leb-false x m (sym is ∙ down), made)

pub number-none : (x : ℕ) (b : Bool) → x ≡ 0 → b ≡ not (eqb x 0) → b ≡ true → ⊥
number-none x b none is up = both_ways (eqb x 0) (not-true (eqb x 0) (sym is ∙ up)) (eq-eqb x 0 none)
