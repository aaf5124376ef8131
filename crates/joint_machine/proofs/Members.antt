-- What a list contains: its head and its rest, what it has at an index, what a `map`, a `flat_map` and a `filter` of it
-- contain, and lists of numbers that rise. Each is an induction on the list.
use Rattle.std.proofs.Common.{◌≡◌, ℕ, zero, suc, ◌+◌, ◌<◌, ◌⊎◌, inl, inr, Bool, true, false, List, [], ◌∷◌, ◌++◌, length, map, cond, Some, refl, sym, ap, subst, ◌∙◌, arith, nat_eq, take}
use Rattle.std.specs.Prelude.{Contains, All, slice_get, flat_map, filter}
use Rattle.std.specs.List.{list_any}
use Rattle.std.proofs.lemmas.List.Elements.{Contains-append_cases, Contains-append_left, Contains-append_right, All-nil, All-cons, All-head, All-tail, All-push, All-contains, All-filter}
use Rattle.std.proofs.lemmas.Option.{slice_get_within, slice_get_read, get_or_from_slice_get, same_Some}
use Rattle.std.proofs.lemmas.Map.Views.{list_any-from_Contains, Contains-from_any}
use Rattle.std.proofs.lemmas.Cmp.{nat_eq_equiv}
use Rattle.std.proofs.lemmas.Bool.{eqb-true}
use Rattle.joint_machine.specs.Components.{Rises}
use Rattle.joint_machine.proofs.Deciding.{none_some}
use Rattle.std.proofs.lemmas.List.{take_more}

pub Contains-nil : {A : Type 0} (x : A) → Contains [] x → ⊥
Contains-nil x h = omega (arith, h.1)

pub Contains-here : {A : Type 0} (x : A) (xs : List A) → Contains (x ∷ xs) x
Contains-here x xs = (0, omega arith, refl)

pub Contains-there : {A : Type 0} (x y : A) (xs : List A) → Contains xs x → Contains (y ∷ xs) x
Contains-there x y xs c = (suc c.0, (let l : c.0 < length xs = c.1 in omega arith), c.2)

pub Contains-cons_cases : {A : Type 0} (y : A) (xs : List A) (x : A) → Contains (y ∷ xs) x → (y ≡ x) ⊎ Contains xs x
Contains-cons_cases y xs x (zero, l, e) = inl e
Contains-cons_cases y xs x (suc k, l, e) = inr (k, omega arith, e)

-- an element and where it stands
pub Contains-at : {A : Type 0} (xs : List A) (i : ℕ) (x : A) → slice_get xs i ≡ Some x → Contains xs x
Contains-at xs i x e = (i, slice_get_within xs i x e, get_or_from_slice_get xs i x x e)

pub at-Contains : {A : Type 0} (xs : List A) (x : A) → Contains xs x → (i : ℕ) × (slice_get xs i ≡ Some x)
at-Contains xs x h = (h.0, slice_get_read xs (length xs) h.0 x refl h.1 (sym h.2))

pub Contains-map : {A B : Type 0} (f : A → B) (xs : List A) (x : A) → Contains xs x → Contains (map f xs) (f x)
Contains-map f [] x c = absurd (Contains-nil x c)
Contains-map f (y ∷ ys) x c = elim (Contains-cons_cases y ys x c) [
  | inl e ↦ subst (λ z. Contains (f y ∷ map f ys) (f z)) e (Contains-here (f y) (map f ys))
  | inr d ↦ Contains-there (f x) (f y) (map f ys) (Contains-map f ys x d)
]

pub Contains-map_cases : {A B : Type 0} (f : A → B) (xs : List A) (y : B) → Contains (map f xs) y → (x : A) × Contains xs x × (f x ≡ y)
Contains-map_cases f [] y c = absurd (Contains-nil y c)
Contains-map_cases f (x ∷ xs) y c = elim (Contains-cons_cases (f x) (map f xs) y c) [
  | inl e ↦ (x, Contains-here x xs, e)
  | inr d ↦ let r = Contains-map_cases f xs y d in (r.0, Contains-there r.0 x xs r.1, r.2)
]

pub Contains-flat_map : {A B : Type 0} (f : A → List B) (xs : List A) (x : A) (y : B) → Contains xs x → Contains (f x) y → Contains (flat_map f xs) y
Contains-flat_map f [] x y c d = absurd (Contains-nil x c)
Contains-flat_map f (z ∷ zs) x y c d = elim (Contains-cons_cases z zs x c) [
  | inl e ↦ Contains-append_left (f z) (flat_map f zs) y (subst (λ w. Contains (f w) y) (sym e) d)
  | inr t ↦ Contains-append_right (f z) (flat_map f zs) y (Contains-flat_map f zs x y t d)
]

pub Contains-flat_map_cases : {A B : Type 0} (f : A → List B) (xs : List A) (y : B) → Contains (flat_map f xs) y → (x : A) × Contains xs x × Contains (f x) y
Contains-flat_map_cases f [] y c = absurd (Contains-nil y c)
Contains-flat_map_cases f (x ∷ xs) y c = elim (Contains-append_cases (f x) (flat_map f xs) y c) [
  | inl d ↦ (x, Contains-here x xs, d)
  | inr t ↦ let r = Contains-flat_map_cases f xs y t in (r.0, Contains-there r.0 x xs r.1, r.2)
]

-- a list has a number, or not
pub Contains-decided : (xs : List ℕ) (x : ℕ) → Contains xs x ⊎ (Contains xs x → ⊥)
Contains-decided xs x = elim (list_any (nat_eq x) xs) as (λ b. (list_any (nat_eq x) xs ≡ b) → Contains xs x ⊎ (Contains xs x → ⊥)) [
  | true ↦ λ e. inl (Contains-from_any eqb-true x xs e)
  | false ↦ λ e. inr (λ c. (let t : true ≡ false = sym (list_any-from_Contains nat_eq_equiv x xs c) ∙ e in cc))
] refl

-- what holds of each member holds of all
pub All-members : {X : Type 0} (P : X → Type 0) (xs : List X) → ((x : X) → Contains xs x → P x) → All P xs
All-members P [] h = All-nil P
All-members P (x ∷ xs) h = All-cons P x xs (h x (Contains-here x xs)) (All-members P xs (λ y c. h y (Contains-there y x xs c)))

-- a filter keeps exactly what passes
filter-in : {X : Type 0} (p : X → Bool) (x : X) (xs : List X) (y : X) (b : Bool) → p x ≡ b → Contains (cond b (x ∷ filter p xs) (filter p xs)) y → ((x ≡ y) × (p y ≡ true)) ⊎ Contains (filter p xs) y
filter-in p x xs y true e c = elim (Contains-cons_cases x (filter p xs) y c) [ inl s ↦ inl (s, subst (λ z. p z ≡ true) s e) | inr h ↦ inr h ]
filter-in p x xs y false e c = inr c

pub Contains-filter_from : {X : Type 0} (p : X → Bool) (xs : List X) (y : X) → Contains (filter p xs) y → Contains xs y × (p y ≡ true)
Contains-filter_from p [] y c = absurd (Contains-nil y c)
Contains-filter_from p (x ∷ xs) y c = elim (filter-in p x xs y (p x) refl c) [
  | inl h ↦ (subst (λ z. Contains (x ∷ xs) z) h.0 (Contains-here x xs), h.1)
  | inr h ↦ (let r = Contains-filter_from p xs y h in (Contains-there y x xs r.0, r.1))
]

filter-first : {X : Type 0} (p : X → Bool) (x : X) (xs : List X) (b : Bool) → b ≡ true → Contains (cond b (x ∷ filter p xs) (filter p xs)) x
filter-first p x xs true e = Contains-here x (filter p xs)
filter-first p x xs false e = cc

filter-later : {X : Type 0} (p : X → Bool) (x : X) (xs : List X) (y : X) (b : Bool) → Contains (filter p xs) y → Contains (cond b (x ∷ filter p xs) (filter p xs)) y
filter-later p x xs y true c = Contains-there y x (filter p xs) c
filter-later p x xs y false c = c

pub Contains-filter_to : {X : Type 0} (p : X → Bool) (xs : List X) (y : X) → Contains xs y → p y ≡ true → Contains (filter p xs) y
Contains-filter_to p [] y c e = absurd (Contains-nil y c)
Contains-filter_to p (x ∷ xs) y c e = elim (Contains-cons_cases x xs y c) [
  | inl s ↦ subst (λ z. Contains (filter p (x ∷ xs)) z) s (filter-first p x xs (p x) (ap p s ∙ e))
  | inr h ↦ filter-later p x xs y (p x) (Contains-filter_to p xs y h e)
]

-- a number below the next one is below this one, or is it
pub last-or : (a b : ℕ) → a < b + 1 → (a < b) ⊎ (a ≡ b)
last-or a b l = grind arith

-- a rising list with a larger number behind it rises
pub Rises-push : (xs : List ℕ) (n : ℕ) → Rises xs → All (λ y. y < n) xs → Rises (xs ++ n ∷ [])
Rises-push [] n r a = (All-nil (λ y. n < y), tt)
Rises-push (x ∷ xs) n r a = (All-push (λ y. x < y) xs n r.0 (All-head (λ y. y < n) x xs a), Rises-push xs n r.1 (All-tail (λ y. y < n) x xs a))

-- rising lists with the same members are the same
head-below : (x y : ℕ) (xs ys : List ℕ) → Rises (x ∷ xs) → Contains (x ∷ xs) y → (x ≡ y) ⊎ (x < y)
head-below x y xs ys r c = elim (Contains-cons_cases x xs y c) [ inl e ↦ inl e | inr w ↦ inr (All-contains (λ z. x < z) xs y r.0 w) ]

pub Rises-one : (xs ys : List ℕ) → Rises xs → Rises ys → ((m : ℕ) → Contains xs m → Contains ys m) → ((m : ℕ) → Contains ys m → Contains xs m) → xs ≡ ys
Rises-one [] [] r s f g = refl
Rises-one [] (y ∷ ys) r s f g = absurd (Contains-nil y (g y (Contains-here y ys)))
Rises-one (x ∷ xs) [] r s f g = absurd (Contains-nil x (f x (Contains-here x xs)))
Rises-one (x ∷ xs) (y ∷ ys) r s f g =
    let same : x ≡ y = heads in
    let rest : xs ≡ ys = Rises-one xs ys r.1 s.1
    (λ m c. elim (Contains-cons_cases y ys m (f m (Contains-there m x xs c))) [ inl e ↦ absurd (let l : x < m = All-contains (λ z. x < z) xs m r.0 c in omega (arith, l, e, same)) | inr w ↦ w ])
    (λ m c. elim (Contains-cons_cases x xs m (g m (Contains-there m y ys c))) [ inl e ↦ absurd (let l : y < m = All-contains (λ z. y < z) ys m s.0 c in omega (arith, l, e, same)) | inr w ↦ w ]) in
    cc
  where
    heads : x ≡ y
    heads = elim (head-below y x ys xs s (f x (Contains-here x xs))) [
      | inl e ↦ sym e
      | inr l ↦ elim (head-below x y xs ys r (g y (Contains-here y ys))) [ inl e ↦ e | inr k ↦ absurd (omega (arith, l, k)) ]
    ]

-- the numbers of a rising list are each at one place
pub Rises-once : (xs : List ℕ) (i j x : ℕ) → Rises xs → slice_get xs i ≡ Some x → slice_get xs j ≡ Some x → i ≡ j
Rises-once [] i j x r e f = absurd (none_some x e)
Rises-once (y ∷ xs) zero zero x r e f = refl
Rises-once (y ∷ xs) zero (suc j) x r e f = absurd (let l = All-contains (λ z. y < z) xs x r.0 (Contains-at xs j x f) in let same : y ≡ x = same_Some y x e in omega arith)
Rises-once (y ∷ xs) (suc i) zero x r e f = absurd (let l = All-contains (λ z. y < z) xs x r.0 (Contains-at xs i x e) in let same : y ≡ x = same_Some y x f in omega arith)
Rises-once (y ∷ xs) (suc i) (suc j) x r e f = ap suc (Rises-once xs i j x r.1 e f)

pub Rises-filter : (p : ℕ → Bool) (xs : List ℕ) → Rises xs → Rises (filter p xs)
Rises-filter p [] r = tt
Rises-filter p (x ∷ xs) r = elim (p x) as (λ b. Rises (cond b (x ∷ filter p xs) (filter p xs))) [
  | true ↦ (All-filter p (λ y. x < y) xs r.0, Rises-filter p xs r.1)
  | false ↦ Rises-filter p xs r.1
]

-- the elements below i and the one at i
pub take-next : {X : Type 0} (xs : List X) (i : ℕ) (x : X) → slice_get xs i ≡ Some x → take (i + 1) xs ≡ take i xs ++ x ∷ []
take-next xs i x e = take_more xs i x (slice_get_within xs i x e) ∙ ap (λ z. take i xs ++ z ∷ []) (get_or_from_slice_get xs i x x e)
