-- The rows that an index shows, where one place of it, or one row of the slab, changes. A key stands in the index once,
-- so what happens under it is seen at one number alone; and a key that was vacant stands nowhere in the index.
use Rattle.std.proofs.Common.{◌≡◌, ◌≢◌, ℕ, zero, suc, ◌-◌, ◌≤◌, ◌⊎◌, inl, inr, true, false, List, [], ◌∷◌, ◌++◌, map, length, Option, Some, None, is_some, set, get_or, refl, sym, ap, subst, ◌∙◌}
use Rattle.std.proofs.Common.{arith}
use Rattle.std.specs.Prelude.{slice_get, slice_index_or}
use Rattle.std.proofs.lemmas.Bool.{cases_eq}
use Rattle.std.proofs.lemmas.List.{length-map, map-append}
use Rattle.std.proofs.lemmas.Option.{slice_get_read}
use Rattle.std.specs.declared.snapshot.Snapshot.{Snapshot}
use Rattle.joint_machine.specs.Heaps.{numbered_at, numbered_set}
use Rattle.joint_machine.proofs.Numbered.{push-at_cases}
use Rattle.heap_rules.proofs.Numbered.{numbered-read, numbered_set-index}
use Rattle.slab.specs.Slab.{Slab, get, Updates, with_value}
use Rattle.slab.proofs.SlabLemmas.{Updates-with_value}
use Rattle.row_heap.specs.declared.fields.Fields.{Fields}
use Rattle.row_heap.specs.declared.places.Row.{Row}
use Rattle.row_heap.specs.declared.places.RowPlace.{RowPlace}
use Rattle.row_heap.specs.declared.places.RowPlace.TheVariants.{At, Gone, Leaf}
use Rattle.row_heap.specs.Places.{Seen, IsIndex, seen_at, row_at, standing, gone, leaf}

-- a row that is there
pub row_at-is : (rows : List Seen) (x : ℕ) (r : Seen) → numbered_at rows x ≡ Some r → row_at rows x ≡ r
row_at-is rows x r e = ap (λ o. elim o [ None ↦ gone [] | Some q ↦ q ]) e

-- a row that stands was made
pub stands-within : (rows : List Seen) (x : ℕ) → (row_at rows x).stands ≡ true → (1 ≤ x) × (x ≤ length rows)
stands-within rows zero e = (let f : ⊥ = cc in absurd f)
stands-within [] (suc i) e = (let f : ⊥ = cc in absurd f)
stands-within (r ∷ rows) (suc zero) e = (omega arith, omega arith)
stands-within (r ∷ rows) (suc (suc i)) e = (let w = stands-within rows (suc i) e in (omega arith, omega (arith, w.1)))

-- the row at a place that was read
pub read-row : (s : Slab Row) (places : List RowPlace) (rows : List Seen) (x : ℕ) (r p : RowPlace)
    → map (seen_at s) places ≡ rows → 1 ≤ x → x ≤ length rows → r ≡ p → r ≡ get_or places (x - 1) r → row_at rows x ≡ seen_at s p
read-row s places rows x r p view one le is e =
    row_at-is rows x (seen_at s p) (subst (λ l. numbered_at l x ≡ Some (seen_at s p)) view
    (numbered-read (seen_at s) places x r one (subst (λ l. x ≤ length l) (sym view) le) e ∙ ap (λ z. Some (seen_at s z)) is))

-- and the place itself
pub read-place : (s : Slab Row) (places : List RowPlace) (rows : List Seen) (x : ℕ) (r p : RowPlace)
    → map (seen_at s) places ≡ rows → 1 ≤ x → x ≤ length rows → r ≡ p → r ≡ get_or places (x - 1) r → slice_get places (x - 1) ≡ Some p
read-place s places rows x r p view one le is e = slice_get_read places (length places) (x - 1) r refl
    (let l : x ≤ length (map (seen_at s) places) = subst (λ t. x ≤ length t) (sym view) le in omega (arith, l, length-map places (seen_at s), one)) e ∙ ap (λ z. Some z) is

pub seen-row : (s : Slab Row) (key : ℕ) (r : Row) → get s key ≡ Some r → seen_at s (At key) ≡ standing r
seen-row s key r e = ap (λ o. elim o [ None ↦ gone [] | Some q ↦ standing q ]) e

pub seen-stands : (s : Slab Row) (places : List RowPlace) (i key : ℕ) → IsIndex s places → slice_get places i ≡ Some (At key) → (seen_at s (At key)).stands ≡ true
seen-stands s places i key index at = (let w = index.there i key at in ap (λ z. z.stands) (seen-row s key w.0 w.1))

pub stands-gone : (kept : Snapshot Fields) (s : Slab Row) (r : Seen) → r ≡ seen_at s (Gone kept) → r.stands ≡ true → ⊥
stands-gone kept s r e t = (let f : true ≡ false = sym t ∙ ap (λ z. z.stands) e in cc)

-- one place of a list changes, and the function that shows it: the others are shown as before
pub map-set_others : {A B : Type 0} (f g : A → B) (xs : List A) (i : ℕ) (new : A) → ((j : ℕ) (y : A) → j ≢ i → slice_get xs j ≡ Some y → g y ≡ f y) → map g (set xs i new) ≡ set (map f xs) i (g new)
map-set_others f g [] i new same = refl
map-set_others {A} f g (y ∷ xs) zero new same = ap (λ z. g new ∷ z) (map-as xs (λ j w q. same (suc j) w (λ z. omega (arith, z)) q))
  where
    map-as : (ys : List A) → ((j : ℕ) (w : A) → slice_get ys j ≡ Some w → g w ≡ f w) → map g ys ≡ map f ys
    map-as [] h = refl
    map-as (w ∷ ys) h = ap (λ z. g w ∷ z) (map-as ys (λ j v q. h (suc j) v q)) ∙ ap (λ z. z ∷ map f ys) (h 0 w refl)
map-set_others f g (y ∷ xs) (suc i) new same = ap (λ z. g y ∷ z) (map-set_others f g xs i new (λ j w n q. same (suc j) w (λ z. n (omega (arith, z))) q))
    ∙ ap (λ z. z ∷ set (map f xs) i (g new)) (same 0 y (λ z. omega (arith, z)) refl)

pub set-self : {A : Type 0} (xs : List A) (i : ℕ) (x : A) → slice_get xs i ≡ Some x → set xs i x ≡ xs
set-self [] i x e = refl
set-self (y ∷ xs) zero x e = (let d : x ≡ y = cc in ap (λ z. z ∷ xs) d)
set-self (y ∷ xs) (suc i) x e = ap (λ z. y ∷ z) (set-self xs i x e)

-- the slab has what it had under the keys of all places but one, so what happened is seen at no other place
abbrev pub KeepsOthers : Slab Row → Slab Row → List RowPlace → ℕ → Type 0
KeepsOthers s t places i = (j k : ℕ) → j ≢ i → slice_get places j ≡ Some (At k) → get t k ≡ get s k

pub keeps-others : (s t : Slab Row) (places : List RowPlace) (i key : ℕ) (slot : Option Row) → IsIndex s places → slice_get places i ≡ Some (At key) → Updates s t key slot → KeepsOthers s t places i
keeps-others s t places i key slot index at u j k n e = u.others k (λ q. n (index.once j i key (subst (λ z. slice_get places j ≡ Some (At z)) q e) at))

pub others-same : (s t : Slab Row) (places : List RowPlace) (i : ℕ) → KeepsOthers s t places i → (j : ℕ) (p : RowPlace) → j ≢ i → slice_get places j ≡ Some p → seen_at t p ≡ seen_at s p
others-same s t places i same j (Gone kept) n e = refl
others-same s t places i same j Leaf n e = refl
others-same s t places i same j (At k) n e = ap (λ o. elim o [ None ↦ gone [] | Some r ↦ standing r ]) (same j k n e)

pub key-there : (s : Slab Row) (places : List RowPlace) (i key : ℕ) → IsIndex s places → slice_get places i ≡ Some (At key) → is_some (get s key) ≡ true
key-there s places i key index at = (let w = index.there i key at in ap is_some w.1)

-- a row of the slab is written
pub IsIndex-written : (s : Slab Row) (places : List RowPlace) (key : ℕ) (r : Row) → is_some (get s key) ≡ true → IsIndex s places → IsIndex (with_value s key r) places
IsIndex-written s places key r has index =
    let u = Updates-with_value s key r has in
    record {
      there = λ i k a. elim (cases_eq k key) [
        | inl e ↦ (r, ap (get (with_value s key r)) e ∙ u.changed)
        | inr d ↦ (let w = index.there i k a in (w.0, u.others k d ∙ w.1))
      ];
      once = index.once;
    }

pub shown-written : (s : Slab Row) (places : List RowPlace) (rows : List Seen) (x key : ℕ) (r : Row) (new : Seen)
    → map (seen_at s) places ≡ rows → IsIndex s places → 1 ≤ x → slice_get places (x - 1) ≡ Some (At key) → standing r ≡ new
    → map (seen_at (with_value s key r)) places ≡ numbered_set rows x new
shown-written s places rows x key r new view index one at is =
    let t = with_value s key r in
    let u = Updates-with_value s key r (key-there s places (x - 1) key index at) in
    ap (map (seen_at t)) (sym (set-self places (x - 1) (At key) at))
    ∙ (map-set_others (seen_at s) (seen_at t) places (x - 1) (At key) (others-same s t places (x - 1) (keeps-others s t places (x - 1) key (Some r) index at u))
    ∙ (ap (λ z. set (map (seen_at s) places) (x - 1) z) (ap (λ o. elim o [ None ↦ gone [] | Some q ↦ standing q ]) u.changed ∙ is)
    ∙ (ap (λ z. set z (x - 1) new) view ∙ numbered_set-index rows x new one)))

set-at_or : {A : Type 0} (xs : List A) (i : ℕ) (x : A) (j : ℕ) (y : A) → slice_get (set xs i x) j ≡ Some y → (y ≡ x) ⊎ ((j ≢ i) × (slice_get xs j ≡ Some y))
set-at_or [] i x j y e = cc
set-at_or (z ∷ xs) zero x zero y e = inl (let d : y ≡ x = cc in d)
set-at_or (z ∷ xs) zero x (suc j) y e = inr ((λ q. omega (arith, q)), e)
set-at_or (z ∷ xs) (suc i) x zero y e = inr ((λ q. omega (arith, q)), e)
set-at_or (z ∷ xs) (suc i) x (suc j) y e = elim (set-at_or xs i x j y e) [ inl w ↦ inl w | inr w ↦ inr ((λ q. w.0 (omega (arith, q))), w.1) ]

-- a further row that the slab doesn't have
not-leaf : (k : ℕ) → Leaf ≡ At k → ⊥
not-leaf k e = cc

pub IsIndex-leaf : (s : Slab Row) (places : List RowPlace) → IsIndex s places → IsIndex s (places ++ Leaf ∷ [])
IsIndex-leaf s places index = record {
  there = λ i k e. elim (push-at_cases places Leaf i (At k) e) [
    | inl w ↦ index.there i k w
    | inr w ↦ absurd (not-leaf k w.1)
  ];
  once = λ i j k ei ej. elim (push-at_cases places Leaf i (At k) ei) [
    | inl wi ↦ elim (push-at_cases places Leaf j (At k) ej) [
      | inl wj ↦ index.once i j k wi wj
      | inr wj ↦ absurd (not-leaf k wj.1)
    ]
    | inr wi ↦ absurd (not-leaf k wi.1)
  ];
}

-- a row is removed, from the slab too if that has it, and its place keeps the fields
pub IsIndex-freed : (s t : Slab Row) (places : List RowPlace) (i : ℕ) (kept : Snapshot Fields) → IsIndex s places → KeepsOthers s t places i → IsIndex t (set places i (Gone kept))
IsIndex-freed s t places i kept index same = record {
  there = λ j k e. elim (set-at_or places i (Gone kept) j (At k) e) [
    | inl w ↦ (let d : ⊥ = cc in absurd d)
    | inr w ↦ (let o = index.there j k w.1 in (o.0, same j k w.0 w.1 ∙ o.1))
  ];
  once = λ j l k ej el. elim (set-at_or places i (Gone kept) j (At k) ej) [
    | inl w ↦ (let d : ⊥ = cc in absurd d)
    | inr w ↦ elim (set-at_or places i (Gone kept) l (At k) el) [
      | inl v ↦ (let d : ⊥ = cc in absurd d)
      | inr v ↦ index.once j l k w.1 v.1
    ]
  ];
}

pub shown-freed : (s t : Slab Row) (places : List RowPlace) (rows : List Seen) (x : ℕ) (kept : Snapshot Fields)
    → map (seen_at s) places ≡ rows → 1 ≤ x → KeepsOthers s t places (x - 1) → map (seen_at t) (set places (x - 1) (Gone kept)) ≡ numbered_set rows x (gone kept.value)
shown-freed s t places rows x kept view one same =
    map-set_others (seen_at s) (seen_at t) places (x - 1) (Gone kept) (others-same s t places (x - 1) same)
    ∙ (ap (λ z. set z (x - 1) (gone kept.value)) view ∙ numbered_set-index rows x (gone kept.value) one)

-- a row under a vacant key, at the end of the index
differs : (s : Slab Row) (places : List RowPlace) (key i k : ℕ) → IsIndex s places → get s key ≡ None → slice_get places i ≡ Some (At k) → k ≡ key → ⊥
differs s places key i k index vacant at e = (let w = index.there i k at in let z : Some w.0 ≡ None = sym w.1 ∙ (ap (get s) e ∙ vacant) in cc)

same-key : (k key : ℕ) → At key ≡ At k → k ≡ key
same-key k key e = cc

pub IsIndex-pushed : (s t : Slab Row) (places : List RowPlace) (key : ℕ) (r : Row) → IsIndex s places → get s key ≡ None → Updates s t key (Some r) → IsIndex t (places ++ At key ∷ [])
IsIndex-pushed s t places key r index vacant u = record {
  there = λ i k e. elim (push-at_cases places (At key) i (At k) e) [
    | inl w ↦ (let old = index.there i k w in (old.0, u.others k (differs s places key i k index vacant w) ∙ old.1))
    | inr w ↦ (r, ap (get t) (same-key k key w.1) ∙ u.changed)
  ];
  once = λ i j k ei ej. elim (push-at_cases places (At key) i (At k) ei) [
    | inl wi ↦ elim (push-at_cases places (At key) j (At k) ej) [
      | inl wj ↦ index.once i j k wi wj
      | inr wj ↦ absurd (differs s places key i k index vacant wi (same-key k key wj.1))
    ]
    | inr wi ↦ elim (push-at_cases places (At key) j (At k) ej) [
      | inl wj ↦ absurd (differs s places key j k index vacant wj (same-key k key wi.1))
      | inr wj ↦ wi.0 ∙ sym wj.0
    ]
  ];
}

pub shown-pushed : (s t : Slab Row) (places : List RowPlace) (rows : List Seen) (key : ℕ) (r : Row) → IsIndex s places
    → map (seen_at s) places ≡ rows → get s key ≡ None → Updates s t key (Some r) → map (seen_at t) (places ++ At key ∷ []) ≡ rows ++ standing r ∷ []
shown-pushed s t places rows key r index view vacant u =
    map-append (seen_at t) places (At key ∷ []) ∙ (ap (λ o. map (seen_at t) places ++ elim o [ None ↦ gone [] | Some q ↦ standing q ] ∷ []) u.changed
    ∙ ap (λ l. l ++ standing r ∷ []) (kept places (λ i k e. index.there i k e) ∙ view))
  where
    kept : (ps : List RowPlace) → ((i k : ℕ) → slice_get ps i ≡ Some (At k) → (q : Row) × (get s k ≡ Some q)) → map (seen_at t) ps ≡ map (seen_at s) ps
    kept [] there = refl
    kept (Gone fs ∷ ps) there = ap (λ l. gone fs.value ∷ l) (kept ps (λ i k e. there (suc i) k e))
    kept (Leaf ∷ ps) there = ap (λ l. leaf ∷ l) (kept ps (λ i k e. there (suc i) k e))
    kept (At k ∷ ps) there = ap (λ l. seen_at t (At k) ∷ l) (kept ps (λ i k' e. there (suc i) k' e))
        ∙ ap (λ o. elim o [ None ↦ gone [] | Some q ↦ standing q ] ∷ map (seen_at s) ps)
        (u.others k (λ e. (let w = there 0 k refl in let z : Some w.0 ≡ None = sym w.1 ∙ (ap (get s) e ∙ vacant) in cc)))

-- more room changes no row
pub IsIndex-grown : (s t : Slab Row) (places : List RowPlace) → t.slots ≡ s.slots → IsIndex s places → IsIndex t places
IsIndex-grown s t places e index = record { there = λ i k a. (let w = index.there i k a in (w.0, ap (λ l. slice_index_or l k None) e ∙ w.1)); once = index.once }

pub shown-grown : (s t : Slab Row) (places : List RowPlace) → t.slots ≡ s.slots → map (seen_at t) places ≡ map (seen_at s) places
shown-grown s t [] e = refl
shown-grown s t (Gone kept ∷ places) e = ap (λ r. gone kept.value ∷ r) (shown-grown s t places e)
shown-grown s t (Leaf ∷ places) e = ap (λ r. leaf ∷ r) (shown-grown s t places e)
shown-grown s t (At k ∷ places) e = ap (λ r. seen_at t (At k) ∷ r) (shown-grown s t places e)
    ∙ ap (λ o. elim o [ None ↦ gone [] | Some q ↦ standing q ] ∷ map (seen_at s) places) (ap (λ l. slice_index_or l k None) e)

-- a row that stands has a key, by which it is the slab's row
pub at-key : (s : Slab Row) (places : List RowPlace) (rows : List Seen) (x : ℕ) (r : RowPlace) (key : ℕ) → map (seen_at s) places ≡ rows
    → (row_at rows x).stands ≡ true → r ≡ At key → r ≡ get_or places (x - 1) r → slice_get places (x - 1) ≡ Some (At key)
at-key s places rows x r key view up is e = (let w = stands-within rows x up in read-place s places rows x r (At key) view w.0 w.1 is e)

pub row-of : (s : Slab Row) (places : List RowPlace) (rows : List Seen) (x : ℕ) (r : RowPlace) (key : ℕ) (row : Row) → map (seen_at s) places ≡ rows
    → (row_at rows x).stands ≡ true → r ≡ At key → r ≡ get_or places (x - 1) r → get s key ≡ Some row → row_at rows x ≡ standing row
row-of s places rows x r key row view up is e got = (let w = stands-within rows x up in read-row s places rows x r (At key) view w.0 w.1 is e ∙ seen-row s key row got)

-- its row is written
pub index-written : (s : Slab Row) (places : List RowPlace) (rows : List Seen) (x : ℕ) (r : RowPlace) (key : ℕ) (new : Row) → map (seen_at s) places ≡ rows
    → (row_at rows x).stands ≡ true → r ≡ At key → r ≡ get_or places (x - 1) r → IsIndex s places → IsIndex (with_value s key new) places
index-written s places rows x r key new view up is e index = IsIndex-written s places key new (key-there s places (x - 1) key index (at-key s places rows x r key view up is e)) index

pub rows-written : (s : Slab Row) (places : List RowPlace) (rows : List Seen) (x : ℕ) (r : RowPlace) (key : ℕ) (new : Row) (seen : Seen)
    → map (seen_at s) places ≡ rows → (row_at rows x).stands ≡ true → r ≡ At key → r ≡ get_or places (x - 1) r → IsIndex s places
    → standing new ≡ seen → map (seen_at (with_value s key new)) places ≡ numbered_set rows x seen
rows-written s places rows x r key new seen view up is e index same = shown-written s places rows x key new seen view index (stands-within rows x up).0 (at-key s places rows x r key view up is e) same

-- a row that is written as it is
pub rows-self : (rows : List Seen) (x : ℕ) (r : Seen) → 1 ≤ x → x ≤ length rows → r ≡ row_at rows x → numbered_set rows x r ≡ rows
rows-self rows zero r one le e = refl
rows-self [] (suc i) r one le e = refl
rows-self (q ∷ rows) (suc zero) r one le e = ap (λ z. z ∷ rows) e
rows-self (q ∷ rows) (suc (suc i)) r one le e = ap (λ z. q ∷ z) (rows-self rows (suc i) r (omega arith) (omega arith) e)
