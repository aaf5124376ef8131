-- A loop over numbers asks one more at each turn.
use Rattle.std.proofs.Common.{◌≡◌, ℕ, zero, suc, ◌+◌, ◌<◌, List, [], ◌∷◌, ◌++◌, length, take, map, filter, refl, sym, ap, subst, ◌∙◌, arith, append_assoc, append-nil}
use Rattle.std.specs.List.{flat_map, range_with_len}
use Rattle.std.proofs.lemmas.Grind.{flat_map-append}

range_suc : (a n : ℕ) → range_with_len a (suc n) ≡ range_with_len a n ++ (a + n) ∷ []
range_suc a zero = (let e : a ≡ a + 0 = omega arith in ap (λ k. k ∷ []) e)
range_suc a (suc n) = (let e : a + 1 + n ≡ a + suc n = omega arith in ap (λ xs. a ∷ xs) (range_suc (a + 1) n ∙ ap (λ k. range_with_len (a + 1) n ++ k ∷ []) e))

range_more : (a n : ℕ) → range_with_len a (n + 1) ≡ range_with_len a n ++ (a + n) ∷ []
range_more a n = (let e : n + 1 ≡ suc n = omega arith in ap (range_with_len a) e ∙ range_suc a n)

-- what is put for one number more stands behind what was put before
pub put_more : {A : Type 0} (f : ℕ → List A) (a n k : ℕ) (old now new : List A) → k ≡ a + n
    → now ≡ old ++ flat_map f (range_with_len a n) → new ≡ now ++ f k → new ≡ old ++ flat_map f (range_with_len a (n + 1))
put_more f a n k old now new e o p =
    p ∙ (ap (λ xs. xs ++ f k) o ∙ (append_assoc old (flat_map f (range_with_len a n)) (f k)
    ∙ ap (λ xs. old ++ xs) (sym (ap (flat_map f) (range_more a n)
    ∙ (flat_map-append f (range_with_len a n) ((a + n) ∷ []) ∙ ap (λ xs. flat_map f (range_with_len a n) ++ xs) (append-nil (f (a + n)) ∙ ap f (sym e)))))))

pub put_none : {A : Type 0} (f : ℕ → List A) (a : ℕ) (old : List A) → old ≡ old ++ flat_map f (range_with_len a 0)
put_none f a old = sym (append-nil old)

-- lists that are put one behind another
two : {A : Type 0} (o a b n m : List A) → n ≡ o ++ a → m ≡ n ++ b → m ≡ o ++ (a ++ b)
two o a b n m p q = q ∙ (ap (λ xs. xs ++ b) p ∙ append_assoc o a b)

pub six : {A : Type 0} (o a b c d e f n1 n2 n3 n4 n5 n6 : List A) → n1 ≡ o ++ a → n2 ≡ n1 ++ b
    → n3 ≡ n2 ++ c → n4 ≡ n3 ++ d → n5 ≡ n4 ++ e → n6 ≡ n5 ++ f → n6 ≡ o ++ (a ++ (b ++ (c ++ (d ++ (e ++ f)))))
six o a b c d e f n1 n2 n3 n4 n5 n6 p1 p2 p3 p4 p5 p6 =
    two o a (b ++ (c ++ (d ++ (e ++ f)))) n1 n6 p1 (two n1 b (c ++ (d ++ (e ++ f))) n2 n6 p2 (two n2 c (d ++ (e ++ f)) n3 n6 p3 (two n3 d (e ++ f) n4 n6 p4 (two n4 e f n5 n6 p5 p6))))
