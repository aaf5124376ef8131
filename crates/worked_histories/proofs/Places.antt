-- Where in a list an element with some property stands is computed by a test.
use Rattle.std.proofs.Common.{◌≡◌, ℕ, zero, suc, ◌+◌, Bool, true, not, ◌||◌, ◌&&◌, List, [], ◌∷◌, Some, slice_get, sym, subst, nat_eq, arith, ⊎_elim, ◌∙◌, true≢false}
use Rattle.std.proofs.lemmas.Bool.{or_cases, and_parts, not-true}
use Rattle.std.proofs.lemmas.Bool.Decides.{Decides-eqb}

-- whether only the element at place e passes the test, where the places are counted from k on
abbrev pub only_at : {A : Type 0} → (A → Bool) → ℕ → ℕ → List A → Bool
only_at test e k [] = true
only_at test e k (x ∷ xs) = (not (test x) || nat_eq k e) && only_at test e (suc k) xs

pub place_from : {A : Type 0} (test : A → Bool) (e k : ℕ) (xs : List A) (i : ℕ) (x : A) → only_at test e k xs ≡ true → slice_get xs i ≡ Some x → test x ≡ true → i + k ≡ e
place_from test e k [] i x h g t = cc
place_from test e k (y ∷ ys) zero x h g t =
    let p = and_parts (not (test y) || nat_eq k e) (only_at test e (suc k) ys) h in
    let same : y ≡ x = cc in
    ⊎_elim (λ n. absurd (true≢false (sym (subst (λ z. test z ≡ true) (sym same) t) ∙ not-true (test y) n)))
    (λ q. let at = (Decides-eqb k e).0 q in omega arith) (or_cases (not (test y)) (nat_eq k e) p.0)
place_from test e k (y ∷ ys) (suc i) x h g t =
    let p = and_parts (not (test y) || nat_eq k e) (only_at test e (suc k) ys) h in
    let r = place_from test e (suc k) ys i x p.1 g t in omega arith

pub place : {A : Type 0} (test : A → Bool) (e : ℕ) (xs : List A) (i : ℕ) (x : A) → only_at test e 0 xs ≡ true → slice_get xs i ≡ Some x → test x ≡ true → i ≡ e
place test e xs i x h g t = let r = place_from test e 0 xs i x h g t in omega arith

pub same_place : {A : Type 0} (xs : List A) (i e : ℕ) (x y : A) → slice_get xs i ≡ Some x → i ≡ e → slice_get xs e ≡ Some y → y ≡ x
same_place xs i e x y g same h = let g' : slice_get xs e ≡ Some x = subst (λ k. slice_get xs k ≡ Some x) same g in cc
