-- Lists whose elements have the numbers from 1 on: an element that is read or written at its number, and what a
-- list of rows has in the row of a number.
use Rattle.std.proofs.Common.{◌≡◌, ℕ, zero, suc, ◌+◌, ◌-◌, ◌<◌, ◌≤◌, ◌⊎◌, inl, inr, List, [], ◌∷◌, ◌++◌, length, map, Option, Some, None, set, take, get_or, refl, sym, ap, subst, ◌∙◌, arith}
use Rattle.std.specs.Prelude.{Contains, slice_get}
use Rattle.std.specs.Option.{option_map}
use Rattle.std.proofs.lemmas.List.{map-set, map-append, length-map, take_more}
use Rattle.std.proofs.lemmas.Option.{slice_get_read, slice_get-map}
use Rattle.joint_machine.specs.Heaps.{Heap, IsMade, fields_of, numbered_at, numbered_set, slot}

-- an element that is read at index n - 1, of a list and of the list behind a view
pub numbered-index : {A : Type 0} (vs : List A) (n : ℕ) (r : A) → 1 ≤ n → n ≤ length vs → r ≡ get_or vs (n - 1) r → numbered_at vs n ≡ Some r
numbered-index vs zero r p q e = absurd (omega arith)
numbered-index vs (suc k) r p q e =
    let same : suc k - 1 ≡ k = omega arith in
    slice_get_read vs (length vs) k r refl (omega arith) (rw same at e)

numbered-map : {A X : Type 0} (f : A → X) (vs : List A) (n : ℕ) (r : A) → numbered_at vs n ≡ Some r → numbered_at (map f vs) n ≡ Some (f r)
numbered-map f vs zero r e = (let g : ⊥ = cc in absurd g)
numbered-map f vs (suc k) r e = slice_get-map f vs k ∙ ap (option_map f) e

pub numbered-read : {A X : Type 0} (f : A → X) (vs : List A) (n : ℕ) (r : A) → 1 ≤ n → n ≤ length (map f vs) → r ≡ get_or vs (n - 1) r → numbered_at (map f vs) n ≡ Some (f r)
numbered-read f vs n r p q e = numbered-map f vs n r (numbered-index vs n r p (omega (arith, length-map vs f)) e)

pub map-set_number : {A X : Type 0} (f : A → X) (vs : List A) (n : ℕ) (r : A) → 1 ≤ n → map f (set vs (n - 1) r) ≡ numbered_set (map f vs) n (f r)
map-set_number f vs zero r p = absurd (omega arith)
map-set_number f vs (suc k) r p = let same : suc k - 1 ≡ k = omega arith in rw same (map-set f vs k r)

-- the row of a number, and none where there is no such number
abbrev pub row : List (List (Option ℕ)) → ℕ → List (Option ℕ)
row rows n = elim (numbered_at rows n) [ None ↦ [] | Some fs ↦ fs ]

pub row-is : (rows : List (List (Option ℕ))) (n : ℕ) (fs : List (Option ℕ)) → numbered_at rows n ≡ Some fs → row rows n ≡ fs
row-is rows n fs e = rw (e, row) refl

pub row-none : (rows : List (List (Option ℕ))) (n : ℕ) → numbered_at rows n ≡ None → row rows n ≡ []
row-none rows n e = rw (e, row) refl

-- what a row has after a write to a row it had before, or the written row has it
pub row-set_cases : (rows : List (List (Option ℕ))) (n k : ℕ) (fs : List (Option ℕ)) (z : Option ℕ) → Contains (row (numbered_set rows n fs) k) z → Contains (row rows k) z ⊎ Contains fs z
row-set_cases rows zero k fs z h = inl h
row-set_cases rows (suc i) zero fs z h = inl h
row-set_cases [] (suc i) (suc k) fs z h = inl h
row-set_cases (r ∷ rows) (suc zero) (suc zero) fs z h = inr h
row-set_cases (r ∷ rows) (suc zero) (suc (suc k)) fs z h = inl h
row-set_cases (r ∷ rows) (suc (suc i)) (suc zero) fs z h = inl h
row-set_cases (r ∷ rows) (suc (suc i)) (suc (suc k)) fs z h = row-set_cases rows (suc i) (suc k) fs z h

-- a row that has an element is there
pub row-there : (rows : List (List (Option ℕ))) (n : ℕ) (z : Option ℕ) → Contains (row rows n) z → (fs : List (Option ℕ)) × (numbered_at rows n ≡ Some fs) × Contains fs z
row-there rows zero z h = absurd (omega (arith, h.1))
row-there [] (suc k) z h = absurd (omega (arith, h.1))
row-there (r ∷ rows) (suc zero) z h = (r, refl, h)
row-there (r ∷ rows) (suc (suc k)) z h = row-there rows (suc k) z h

-- a slot that is read by its index
pub slot-read : {X : Type 0} (os : List (Option X)) (i : ℕ) (r : Option X) → i < length os → r ≡ get_or os i r → slot os i ≡ r
slot-read os i r l e = let here : slice_get os i ≡ Some r = slice_get_read os (length os) i r refl l e in rw (here, slot) refl

-- the fields of an object, where the element at its index was read
pub fields-read : {A : Type 0} (f : A → List (Option ℕ)) (vs : List A) (k h : Heap) (x : ℕ) (r : A) → k ≡ h → k.fields ≡ map f vs → IsMade h x → r ≡ get_or vs (x - 1) r → fields_of h x ≡ f r
fields-read f vs k h x r same rows made e =
    let here : h.fields ≡ map f vs = ap (λ (l : Heap). l.fields) (sym same) ∙ rows in
    row-is h.fields x (f r) (subst (λ l. numbered_at l x ≡ Some (f r)) (sym here) (numbered-read f vs x r made.0 (omega (arith, made.1, ap length here)) e))

-- a write at index n - 1
pub numbered_set-index : {X : Type 0} (xs : List X) (n : ℕ) (y : X) → 1 ≤ n → set xs (n - 1) y ≡ numbered_set xs n y
numbered_set-index xs zero y p = absurd (omega arith)
numbered_set-index xs (suc k) y p = let same : suc k - 1 ≡ k = omega arith in rw same refl

-- an element that a loop reads at index i, seen through its number
pub number-at : {A : Type 0} (f : A → ℕ) (xs : List A) (i : ℕ) (x : A) (n : ℕ) → i < length xs → x ≡ get_or xs i x → n ≡ f x → slice_get (map f xs) i ≡ Some n
number-at f xs i x n l e m = slice_get-map f xs i ∙ (ap (option_map f) (slice_get_read xs (length xs) i x refl l e) ∙ ap (λ z. Some z) (sym m))

pub map-take_more : {A : Type 0} (f : A → ℕ) (xs : List A) (i : ℕ) (x : A) (n : ℕ) → i < length xs → x ≡ get_or xs i x → n ≡ f x → map f (take (i + 1) xs) ≡ map f (take i xs) ++ n ∷ []
map-take_more f xs i x n l e m =
    ap (map f) (take_more xs i x l ∙ ap (λ z. take i xs ++ z ∷ []) (sym e)) ∙ (map-append f (take i xs) (x ∷ []) ∙ ap (λ z. map f (take i xs) ++ z ∷ []) (sym m))
