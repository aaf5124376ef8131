-- A test tells a fact where it is true exactly then. Tests that are joined by `&&`, `||` and `not` tell what their
-- parts tell, joined; so do tests of every element of a list, and of what stands in a place.
use Rattle.std.proofs.Common.{◌≡◌, ℕ, ◌<◌, ◌≤◌, ◌⊎◌, ◌↔◌, IsTrue, Bool, true, false, not, ◌&&◌, ◌||◌, nat_eq, nat_lt, nat_le, List, [], ◌∷◌, Option, Some, None, refl, ap, subst, true≢false, sym, ◌∙◌}
use Rattle.std.specs.Bool.{Decides}
use Rattle.std.specs.List.{All, list_all}
use Rattle.std.proofs.lemmas.Bool.{false≢true, leb-true, le-leb, ltb-true, lt-ltb}
use Rattle.std.proofs.lemmas.Bool.Decides.{Decides-eqb, Decides-not, Decides-and, Decides-or}
use Rattle.std.proofs.lemmas.List.Elements.{All-nil, All-cons, All-head, All-tail}
use Rattle.computed_histories.specs.Lists.{implies, has_that, is_empty, same_number, same_list, pair_eq}

-- the test is true exactly where the fact holds
pub record Tells (b : Bool) (P : Type 0) : Type 0 where
  pub holds : b ≡ true → P
  pub passes : P → b ≡ true

pub decides : {b : Bool} {P : Type 0} → Tells b P → Decides b P
decides t = (t.holds, t.passes)

pub tells : {b : Bool} {P : Type 0} → Decides b P → Tells b P
tells d = record { holds = d.0; passes = d.1 }

-- as contracts state it
pub tested : {b : Bool} {P : Type 0} → Tells b P → IsTrue b ↔ P
tested t = (t.holds, t.passes)

pub always : {P : Type 0} → P → Tells true P
always p = record { holds = λ e. p; passes = λ q. refl }

pub never : {P : Type 0} → (P → ⊥) → Tells false P
never n = record { holds = λ e. absurd (false≢true e); passes = λ p. absurd (n p) }

pub like : {b : Bool} {P Q : Type 0} → (P → Q) → (Q → P) → Tells b P → Tells b Q
like f g t = record { holds = λ e. f (t.holds e); passes = λ q. t.passes (g q) }

-- what a test that is false tells
pub refuted : {b : Bool} {P : Type 0} → Tells b P → b ≡ false → P → ⊥
refuted t e p = true≢false (sym (t.passes p) ∙ e)

pub isn't : {b : Bool} {P : Type 0} → Tells b P → Tells (not b) (P → ⊥)
isn't {b} {P} t = tells (Decides-not {P = P} b (decides t))

pub and2 : {a b : Bool} {P Q : Type 0} → Tells a P → Tells b Q → Tells (a && b) (P × Q)
and2 {a} {b} {P} {Q} s t = tells (Decides-and {P = P} {Q = Q} a b (decides s) (decides t))

pub or2 : {a b : Bool} {P Q : Type 0} → Tells a P → Tells b Q → Tells (a || b) (P ⊎ Q)
or2 {a} {b} {P} {Q} s t = tells (Decides-or {P = P} {Q = Q} a b (decides s) (decides t))

pub implied : {a b : Bool} {P Q : Type 0} → Tells a P → Tells b Q → Tells (implies a b) (P → Q)
implied {a} {b} {P} {Q} s t = by_case a s
  where
    by_case : (a : Bool) → Tells a P → Tells (implies a b) (P → Q)
    by_case true s = like (λ q p. q) (λ f. f (s.holds refl)) t
    by_case false s = always (λ p. absurd (false≢true (s.passes p)))

pub and3 : {a b c : Bool} {P Q R : Type 0} → Tells a P → Tells b Q → Tells c R → Tells (a && b && c) (P × Q × R)
and3 {P = P} {Q = Q} {R = R} r s t = like {P = (P × Q) × R} (λ p. (p.0.0, p.0.1, p.1)) (λ p. ((p.0, p.1), p.2)) (and2 (and2 r s) t)

pub and4 : {a b c d : Bool} {P Q R S : Type 0} → Tells a P → Tells b Q → Tells c R → Tells d S → Tells (a && b && c && d) (P × Q × R × S)
and4 {P = P} {Q = Q} {R = R} {S = S} r s t u = like {P = (P × Q × R) × S} (λ p. (p.0.0, p.0.1, p.0.2, p.1)) (λ p. ((p.0, p.1, p.2), p.3)) (and2 (and3 r s t) u)

pub and5 : {a b c d e : Bool} {P Q R S T : Type 0} → Tells a P → Tells b Q → Tells c R → Tells d S → Tells e T → Tells (a && b && c && d && e) (P × Q × R × S × T)
and5 {P = P} {Q = Q} {R = R} {S = S} {T = T} r s t u v = like {P = (P × Q × R × S) × T} (λ p. (p.0.0, p.0.1, p.0.2, p.0.3, p.1)) (λ p. ((p.0, p.1, p.2, p.3), p.4)) (and2 (and4 r s t u) v)

pub and6 : {a b c d e f : Bool} {P Q R S T U : Type 0} → Tells a P → Tells b Q → Tells c R → Tells d S → Tells e T → Tells f U → Tells (a && b && c && d && e && f) (P × Q × R × S × T × U)
and6 {P = P} {Q = Q} {R = R} {S = S} {T = T} {U = U} r s t u v w = like {P = (P × Q × R × S × T) × U}
    (λ p. (p.0.0, p.0.1, p.0.2, p.0.3, p.0.4, p.1)) (λ p. ((p.0, p.1, p.2, p.3, p.4), p.5)) (and2 (and5 r s t u v) w)

-- numbers
pub same : (a b : ℕ) → Tells (nat_eq a b) (a ≡ b)
same a b = tells (Decides-eqb a b)

pub less : (a b : ℕ) → Tells (nat_lt a b) (a < b)
less a b = record { holds = ltb-true a b; passes = lt-ltb a b }

pub upto : (a b : ℕ) → Tells (nat_le a b) (a ≤ b)
upto a b = record { holds = leb-true a b; passes = le-leb a b }

pub same_pair : (p q : ℕ × ℕ) → Tells (pair_eq p q) (p ≡ q)
same_pair p q = like {P = (p.0 ≡ q.0) × (p.1 ≡ q.1)} (λ e. λ i. (e.0 i, e.1 i)) (λ e. (ap (λ (r : ℕ × ℕ). r.0) e, ap (λ (r : ℕ × ℕ). r.1) e))
    (and2 (same p.0 q.0) (same p.1 q.1))

-- a test of equality that gives true on the same and tells that two are
pub equal : {A : Type 0} (eq : A → A → Bool) (a b : A) → (eq a b ≡ true → a ≡ b) → eq a a ≡ true → Tells (eq a b) (a ≡ b)
equal eq a b f r = record { holds = f; passes = λ e. subst (λ z. eq a z ≡ true) e r }

-- truth values
pub is_true : (b : Bool) → Tells b (b ≡ true)
is_true b = record { holds = λ e. e; passes = λ e. e }

pub is_false : (b : Bool) → Tells (not b) (b ≡ false)
is_false true = record { holds = λ e. absurd (false≢true e); passes = λ e. absurd (true≢false e) }
is_false false = record { holds = λ e. refl; passes = λ e. refl }

-- what stands in a place
pub that : {A : Type 0} (o : Option A) (test : A → Bool) (P : A → Type 0) → ((x : A) → Tells (test x) (P x)) → Tells (has_that test o) ((x : A) × (o ≡ Some x) × P x)
that None test P t = never (λ p. let e = p.1 in cc)
that {A} (Some x) test P t = record {
  holds = λ e. (x, refl, (t x).holds e);
  passes = λ p. (t x).passes (subst P (inside p.0 x p.1) p.2);
}
  where
    inside : (a b : A) → Some b ≡ Some a → a ≡ b
    inside a b e = cc

pub empty : {A : Type 0} (o : Option A) → Tells (is_empty o) (o ≡ None)
empty None = always refl
empty (Some x) = never (λ e. cc)

pub same_numbers : (a b : Option ℕ) → Tells (same_number a b) (a ≡ b)
same_numbers None None = always refl
same_numbers None (Some b) = never (λ e. cc)
same_numbers (Some a) None = never (λ e. cc)
same_numbers (Some a) (Some b) = like (λ e. ap (λ z. Some z) e) (inside a b) (same a b)
  where
    inside : (a b : ℕ) → Some a ≡ Some b → a ≡ b
    inside a b e = cc

pub same_lists : {A : Type 0} (eq : A → A → Bool) → ((a b : A) → Tells (eq a b) (a ≡ b)) → (xs ys : List A) → Tells (same_list eq xs ys) (xs ≡ ys)
same_lists eq t [] [] = always refl
same_lists eq t [] (y ∷ ys) = never (λ e. cc)
same_lists eq t (x ∷ xs) [] = never (λ e. cc)
same_lists {A} eq t (x ∷ xs) (y ∷ ys) = like {P = (x ≡ y) × (xs ≡ ys)} (λ e. λ i. e.0 i ∷ e.1 i) (λ e. (first x y xs ys e, rest x y xs ys e)) (and2 (t x y) (same_lists eq t xs ys))
  where
    first : (a b : A) (us vs : List A) → a ∷ us ≡ b ∷ vs → a ≡ b
    first a b us vs e = cc

    rest : (a b : A) (us vs : List A) → a ∷ us ≡ b ∷ vs → us ≡ vs
    rest a b us vs e = cc

-- each element of a list
pub all : {A : Type 0} (xs : List A) (test : A → Bool) (P : A → Type 0) → ((x : A) → Tells (test x) (P x)) → Tells (list_all test xs) (All P xs)
all [] test P t = always (All-nil P)
all (x ∷ xs) test P t = like (λ p. All-cons P x xs p.0 p.1) (λ p. (All-head P x xs p, All-tail P x xs p)) (and2 (t x) (all xs test P t))
