-- Tests and options: what an answer says, and what holds in each case of a choice.
use Rattle.std.proofs.Common.{◌≡◌, ◌≢◌, ℕ, ◌↔◌, ◌⊎◌, inl, inr, Bool, true, false, not, ◌||◌, Option, Some, None, IsTrue, refl, arith, eqb, if◌then◌else◌, ◌&&◌, sym, ap, ◌∙◌}
use Rattle.std.specs.Prelude.{is_some, nat_eq}
use Rattle.std.proofs.lemmas.Bool.{eq-eqb, eqb-true}
use Rattle.std.proofs.lemmas.Bool.Decides.{nat_tests}

-- a test is true or false, and not both
pub true_false : true ≡ false → ⊥
true_false e = cc

pub true-false : (b : Bool) → b ≡ true → b ≡ false → ⊥
true-false b e f = cc

pub not-true : (b : Bool) → not b ≡ true → b ≡ true → ⊥
not-true true e f = cc
not-true false e f = cc

pub not-from : (b : Bool) → (b ≡ true → ⊥) → not b ≡ true
not-from true n = absurd (n refl)
not-from false n = refl

pub false-from : (b : Bool) → (b ≡ true → ⊥) → b ≡ false
false-from true n = absurd (n refl)
false-from false n = refl

-- an option is empty or holds one value
pub none_some : {A : Type 0} (x : A) → None ≡ Some x → ⊥
none_some x e = cc

pub some-same : {A : Type 0} (x y : A) → Some x ≡ Some y → x ≡ y
some-same x y e = cc

pub some-true : (o : Option ℕ) → is_some o ≡ true → (x : ℕ) × (o ≡ Some x)
some-true None e = absurd (true-false false e refl)
some-true (Some x) e = (x, refl)

-- what the answer of a test says
pub test-true : (P : Type 0) (b : Bool) → IsTrue b ↔ P → b ≡ true → P
test-true P b h e = h.0 e

pub test-false : (P : Type 0) (b : Bool) → IsTrue b ↔ P → b ≡ false → P → ⊥
test-false P b h e p = (let t : b ≡ true = h.1 p in cc)

-- one test or the other
pub or-true : (a b : Bool) → (a || b) ≡ true → (a ≡ true) ⊎ (b ≡ true)
or-true true b e = inl refl
or-true false b e = inr e

pub or_left : (a b : Bool) → a ≡ true → (a || b) ≡ true
or_left true b e = refl
or_left false b e = cc

pub or_right : (a b : Bool) → b ≡ true → (a || b) ≡ true
or_right true b e = refl
or_right false b e = e

-- different numbers aren't equal by the test
pub neq-eqb : (a b : ℕ) → a ≢ b → eqb a b ≡ false
neq-eqb a b h = grind (arith, nat_tests)

-- what holds in each case of a choice
pub option-cases : {S : Type 0} (P : S → Type 0) (a : S) (b : ℕ → S) (o : Option ℕ) → P a → ((y : ℕ) → P (b y)) → P (elim o [ None ↦ a | Some y ↦ b y ])
option-cases P a b None p q = p
option-cases P a b (Some y) p q = q y

pub test-cases : {S : Type 0} (P : S → Type 0) (t : Bool) (a b : S) → P a → P b → P (if t then a else b)
test-cases P true a b p q = p
test-cases P false a b p q = q

pub and-true : (a b : Bool) → (a && b) ≡ true → (a ≡ true) × (b ≡ true)
and-true true b e = (refl, e)
and-true false b e = absurd (let f : false ≡ true = e in cc)

pub and-both : (a b : Bool) → a ≡ true → b ≡ true → (a && b) ≡ true
and-both true b e f = f
and-both false b e f = e

pub handle-there : (o : Option (Option ℕ)) → is_some (elim o [ None ↦ None | Some x ↦ x ]) ≡ true → (k : ℕ) × (o ≡ Some (Some k))
handle-there None e = absurd (true_false (sym e))
handle-there (Some x) e = (let r = some-true x e in (r.0, ap Some r.1))

-- equality of numbers, from either side
pub nat_eq-turned : (a b : ℕ) → nat_eq a b ≡ nat_eq b a
nat_eq-turned a b = by (nat_eq a b) refl
  where
    by : (t : Bool) → nat_eq a b ≡ t → nat_eq a b ≡ nat_eq b a
    by true e = e ∙ sym (eq-eqb b a (sym (eqb-true a b e)))
    by false e = e ∙ sym (false-from (nat_eq b a) (λ t. true-false (nat_eq a b) (eq-eqb a b (sym (eqb-true b a t))) e))
