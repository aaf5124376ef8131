-- Stretches of a list, read place by place.
use Rattle.std.proofs.Common.{◌≡◌, ℕ, zero, suc, ◌+◌, List, [], ◌∷◌, ◌++◌, length, get_or, map, take, drop, ◌<◌, ◌≤◌, Some, None, sym, ap, subst, ◌∙◌, arith}
use Rattle.std.specs.Prelude.{slice_get}
use Rattle.std.proofs.lemmas.List.{length-drop, length-map, length-take, map-append}
use Rattle.std.proofs.lemmas.Option.{slice_get-get_or}
use Rattle.joint_machine.proofs.Members.{take-next}

-- what stands behind the first places
pub drop-at : {X : Type 0} (xs : List X) (n i : ℕ) → slice_get (drop n xs) i ≡ slice_get xs (n + i)
drop-at xs zero i = (let e : zero + i ≡ i = omega arith in ap (slice_get xs) (sym e))
drop-at [] (suc n) i = (let e : suc n + i ≡ suc (n + i) = omega arith in ap (slice_get []) (sym e))
drop-at (x ∷ xs) (suc n) i = (let e : suc n + i ≡ suc (n + i) = omega arith in drop-at xs n i ∙ ap (slice_get (x ∷ xs)) (sym e))

-- one place more was read
pub stretch-next : {X : Type 0} (f : X → ℕ) (list : List X) (first i place : ℕ) (x : X) (now next : List ℕ) → place ≡ first + i → slice_get list place ≡ Some x
    → now ≡ map f (take i (drop first list)) → next ≡ now ++ f x ∷ [] → next ≡ map f (take (i + 1) (drop first list))
stretch-next f list first i place x now next e at so n =
    let here : slice_get (drop first list) i ≡ Some x = drop-at list first i ∙ (ap (slice_get list) (sym e) ∙ at) in
    n ∙ (ap (λ l. l ++ f x ∷ []) so ∙ sym (ap (map f) (take-next (drop first list) i x here) ∙ map-append f (take i (drop first list)) (x ∷ [])))

-- all places were read
pub stretch-read : {X : Type 0} (f : X → ℕ) (list : List X) (first count i : ℕ) (now : List ℕ) → i ≡ count → length now ≡ i
    → now ≡ map f (take i (drop first list)) → (now ≡ map f (take count (drop first list))) × (length now ≡ count)
stretch-read f list first count i now e l r = (subst (λ n. now ≡ map f (take n (drop first list))) e r, l ∙ e)

-- nothing is read behind the last
past-from : {X : Type 0} (xs : List X) (i : ℕ) → slice_get xs i ≡ None → length xs ≤ i
past-from [] i e = omega arith
past-from (x ∷ xs) zero e = cc
past-from (x ∷ xs) (suc i) e = omega (arith, past-from xs i e)

-- a place that isn't there is missing
pub stretch-short : {X : Type 0} (f : X → ℕ) (list : List X) (first count i place : ℕ) → place ≡ first + i → slice_get list place ≡ None → i < count
    → length (map f (take count (drop first list))) ≡ count → ⊥
stretch-short f list first count i place e n low whole =
    omega (arith, past-from list place n, length-map (take count (drop first list)) f, length-take count (drop first list), length-drop first list)

-- one number more was put
pub map-next : {X : Type 0} (f : X → ℕ) (xs : List ℕ) (i : ℕ) (x : X) (now next : List X) → map f now ≡ take i xs
    → i < length xs → f x ≡ get_or xs i 0 → next ≡ now ++ x ∷ [] → map f next ≡ take (i + 1) xs
map-next f xs i x now next so h e n =
    let here : slice_get xs i ≡ Some (f x) = slice_get-get_or xs i 0 h ∙ ap Some (sym e) in
    ap (map f) n ∙ (map-append f now (x ∷ []) ∙ (ap (λ l. l ++ f x ∷ []) so ∙ sym (take-next xs i (f x) here)))
