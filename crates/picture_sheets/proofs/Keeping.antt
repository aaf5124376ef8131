-- A list of what passes a test has one element more, or hasn't.
use Rattle.std.proofs.Common.{◌≡◌, ℕ, ◌+◌, ◌<◌, Bool, true, false, cond, List, [], ◌∷◌, ◌++◌, length, take, get_or, refl, sym, ap, ◌∙◌}
use Rattle.std.specs.List.{filter}
use Rattle.std.proofs.lemmas.List.{take_more}

push-by : {A : Type 0} (b : Bool) (y : A) (us vs ws : List A) → us ++ ws ≡ vs → cond b (y ∷ us) us ++ ws ≡ cond b (y ∷ vs) vs
push-by true y us vs ws e = ap (λ zs. y ∷ zs) e
push-by false y us vs ws e = e

push : {A : Type 0} (p : A → Bool) (xs : List A) (x : A) → filter p xs ++ cond (p x) (x ∷ []) [] ≡ filter p (xs ++ x ∷ [])
push p [] x = refl
push p (y ∷ ys) x = push-by (p y) y (filter p ys) (filter p (ys ++ x ∷ [])) (cond (p x) (x ∷ []) []) (push p ys x)

pub kept-more : {A : Type 0} (p : A → Bool) (xs : List A) (i : ℕ) (d : A) (old new : List A) (b : Bool) → i < length xs
    → old ≡ filter p (take i xs) → b ≡ p (get_or xs i d) → new ≡ old ++ cond b (get_or xs i d ∷ []) [] → new ≡ filter p (take (i + 1) xs)
kept-more p xs i d old new b l o q n =
    n ∙ (ap (λ ys. ys ++ cond b (get_or xs i d ∷ []) []) o ∙ (ap (λ c. filter p (take i xs) ++ cond c (get_or xs i d ∷ []) []) q
    ∙ (push p (take i xs) (get_or xs i d) ∙ sym (ap (filter p) (take_more xs i d l)))))
