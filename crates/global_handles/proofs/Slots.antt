-- A name leads to the row of its place while that row has its number. The numbers of the names rise, so those of the
-- rows do; a look-up by number finds one name, and reads one slot. To write the row of the place to which that name
-- leads is to change or to remove one row: the other names of the place have other numbers, and the names of the number
-- are one. Each fact is first one of a single name, and then by an induction over the names.
use Rattle.std.proofs.Common.{◌≡◌, ◌≢◌, ℕ, ◌+◌, ◌<◌, ◌≤◌, zero, suc, cond, eqb, Bool, true, false, List, [], ◌∷◌, ◌++◌, length, map, drop, filter, slice_get, Option, None, Some, refl, sym, ap, ◌∙◌}
use Rattle.std.proofs.Common.{inl}
use Rattle.std.proofs.Common.{inr, eq-eqb, arith}
use Rattle.std.specs.Prelude.{⊤}
use Rattle.std.specs.Option.{option_map, option_and_then}
use Rattle.std.proofs.lemmas.List.{length_push}
use Rattle.std.proofs.lemmas.Option.{none-some, same_Some, slice_get_within}
use Rattle.std.proofs.lemmas.Bool.Decides.{nat_tests}
use Rattle.std.proofs.lemmas.Bool.{cases_eq, cases_lt}
use Rattle.joint_machine.specs.declared.names.HNum.{HNum}
use Rattle.joint_machine.specs.declared.names.PNum.{PNum}
use Rattle.joint_machine.proofs.Deciding.{neq-eqb, true-false}
use Rattle.global_handles.specs.declared.HandleRow.{HandleRow}
use Rattle.global_handles.specs.declared.Kept.{Kept}
use Rattle.global_handles.specs.declared.Name.{Name}
use Rattle.global_handles.specs.declared.Slot.{Slot}
use Rattle.global_handles.specs.declared.Hold.TheVariants.{Held}
use Rattle.global_handles.specs.declared.Strength.{Strength}
use Rattle.global_handles.specs.declared.Strength.TheVariants.{Strong}
use Rattle.global_handles.specs.Rows.{row_in, target_in, changed, with_strength, without, renewed, cleared_for, RisesBetween}
use Rattle.global_handles.specs.Slots.{AreHoles, DiffersByStrength, row_at, kept_row, row_of, named_row, is_named, put, rows_of, name_in, NamesRise, ArePlaced, with_row, cleared_slot, cleared_kept}
use Rattle.global_handles.proofs.Rows.{RisesBetween-low, length-without, row_in-below}

-- what is kept of the row of a slot, or None where there is no row and past the end
abbrev pub kept_at : List Slot → ℕ → Option Kept
kept_at ss i = option_and_then (λ s. s.row) (slice_get ss i)

-- the row of a name has its number
kept_row-number : (n : ℕ) (p : PNum) (o : Option Kept) (r : HandleRow) → kept_row n p o ≡ Some r → r.number.0 ≡ n
kept_row-number n p None r is = absurd (none-some r is)
kept_row-number n p (Some k) r is = by (eqb n k.number) refl
  where
    by : (b : Bool) → eqb n k.number ≡ b → r.number.0 ≡ n
    by true e =
        let same = same_Some (row_at n p k) r (rw e at is) in
        ap (λ (t : HandleRow). t.number.0) (sym same)
    by false e = absurd (none-some r (rw e at is))

row_of-number : (n : ℕ) (o : Option Slot) (r : HandleRow) → option_and_then (row_of n) o ≡ Some r → r.number.0 ≡ n
row_of-number n None r is = absurd (none-some r is)
row_of-number n (Some s) r is = kept_row-number n s.peer s.row r is

pub named_row-number : (ss : List Slot) (e : Name) (r : HandleRow) → named_row ss e ≡ Some r → r.number.0 ≡ e.number
named_row-number ss e r is = row_of-number e.number (slice_get ss e.place) r is

-- rows rise as their names do
RisesBetween-put : (low high n : ℕ) (o : Option HandleRow) (rows : List HandleRow)
    → ((r : HandleRow) → o ≡ Some r → r.number.0 ≡ n) → low < n → RisesBetween n high rows → RisesBetween low high (put o rows)
RisesBetween-put low high n None rows number above rises = RisesBetween-low low n high rows (omega arith) rises
RisesBetween-put low high n (Some r) rows number above rises =
    let is = number r refl in
    (omega arith, rw is rises)

pub RisesBetween-named : (low high : ℕ) (ss : List Slot) (es : List Name) → NamesRise low high es → RisesBetween low high (rows_of ss es)
RisesBetween-named low high ss [] rise = rise
RisesBetween-named low high ss (e ∷ es) rise =
    RisesBetween-put low high e.number (named_row ss e) (rows_of ss es) (named_row-number ss e) rise.0 (RisesBetween-named e.number high ss es rise.1)

-- a look-up by number finds the name, and reads its slot
row_in-put_here : (low high : ℕ) (o : Option HandleRow) (rows : List HandleRow) (h : HNum)
    → ((r : HandleRow) → o ≡ Some r → r.number.0 ≡ h.0) → h.0 ≤ low → RisesBetween low high rows → row_in (put o rows) h ≡ o
row_in-put_here low high None rows h number le rises = row_in-below low high rows h le rises
row_in-put_here low high (Some r) rows h number le rises = rw (eq-eqb h.0 r.number.0 (sym (number r refl))) refl

row_in-put_other : (n : ℕ) (o : Option HandleRow) (rows : List HandleRow) (h : HNum) → ((r : HandleRow) → o ≡ Some r → r.number.0 ≡ n) → h.0 ≢ n → row_in (put o rows) h ≡ row_in rows h
row_in-put_other n None rows h number apart = refl
row_in-put_other n (Some r) rows h number apart =
    let no : h.0 ≢ r.number.0 = λ e. apart (e ∙ number r refl) in
    rw (neq-eqb h.0 r.number.0 no) refl

pub row_in-named : (low high : ℕ) (ss : List Slot) (es : List Name) (h : HNum) → NamesRise low high es → row_in (rows_of ss es) h ≡ option_and_then (named_row ss) (name_in es h)
row_in-named low high ss [] h rise = refl
row_in-named low high ss (e ∷ es) h rise = by (eqb h.0 e.number) refl (row_in-named e.number high ss es h rise.1)
  where
    by : (b : Bool) → eqb h.0 e.number ≡ b → row_in (rows_of ss es) h ≡ option_and_then (named_row ss) (name_in es h)
        → row_in (rows_of ss (e ∷ es)) h ≡ option_and_then (named_row ss) (name_in (e ∷ es) h)
    by true is rest =
        let same : h.0 ≡ e.number = grind (arith, nat_tests) in
        rw is (row_in-put_here e.number high (named_row ss e) (rows_of ss es) h (λ r at. named_row-number ss e r at ∙ sym same) (omega arith) (RisesBetween-named e.number high ss es rise.1))
    by false is rest =
        let apart : h.0 ≢ e.number = grind (arith, nat_tests) in
        rw is (row_in-put_other e.number (named_row ss e) (rows_of ss es) h (named_row-number ss e) apart ∙ rest)

-- names rise from a smaller number too, and none of them has a number at or below the first
pub NamesRise-low : (a b c : ℕ) (es : List Name) → a ≤ b → NamesRise b c es → NamesRise a c es
NamesRise-low a b c [] le rise = omega arith
NamesRise-low a b c (e ∷ es) le rise = (omega (arith, rise.0), rise.1)

pub NamesRise-within : (low high : ℕ) (es : List Name) → NamesRise low high es → low ≤ high
NamesRise-within low high [] rise = rise
NamesRise-within low high (e ∷ es) rise = omega (arith, rise.0, NamesRise-within e.number high es rise.1)

pub NamesRise-push : (low high n : ℕ) (es : List Name) (e : Name) → high < e.number → e.number ≤ n → NamesRise low high es → NamesRise low n (es ++ e ∷ [])
NamesRise-push low high n [] e above most rise = (omega (arith, above, rise), most)
NamesRise-push low high n (x ∷ es) e above most rise = (rise.0, NamesRise-push x.number high n es e above most rise.1)

pub NamesRise-filter : (f : Name → Bool) (low high : ℕ) (es : List Name) → NamesRise low high es → NamesRise low high (filter f es)
NamesRise-filter f low high [] rise = rise
NamesRise-filter f low high (e ∷ es) rise = by (f e) refl (NamesRise-filter f e.number high es rise.1)
  where
    by : (b : Bool) → f e ≡ b → NamesRise e.number high (filter f es) → NamesRise low high (filter f (e ∷ es))
    by true is rest = rw is (rise.0, rest)
    by false is rest = rw is (NamesRise-low low e.number high (filter f es) (omega (arith, rise.0)) rest)

-- a name that is left is found as before
pub name_in-filter : (f : Name → Bool) (es : List Name) (h : HNum) (e : Name) → name_in es h ≡ Some e → f e ≡ true → name_in (filter f es) h ≡ Some e
name_in-filter f [] h e found left = absurd (none-some e found)
name_in-filter f (x ∷ es) h e found left = by (eqb h.0 x.number) (f x) refl refl (name_in-filter f es h e)
  where
    by : (b d : Bool) → eqb h.0 x.number ≡ b → f x ≡ d → (name_in es h ≡ Some e → f e ≡ true → name_in (filter f es) h ≡ Some e) → name_in (filter f (x ∷ es)) h ≡ Some e
    by true true same is rest =
        let here : Some x ≡ Some e = rw same at found in
        rw (is, same) here
    by true false same is rest =
        let here : Some x ≡ Some e = rw same at found in
        absurd (true-false (f x) (rw (← same_Some x e here) at left) is)
    by false true apart is rest = rw (is, apart) (rest (rw apart at found) left)
    by false false apart is rest = rw is (rest (rw apart at found) left)

pub ArePlaced-filter : (f : Name → Bool) (n : ℕ) (es : List Name) → ArePlaced n es → ArePlaced n (filter f es)
ArePlaced-filter f n [] placed = placed
ArePlaced-filter f n (e ∷ es) placed = by (f e) refl (ArePlaced-filter f n es placed.1)
  where
    by : (b : Bool) → f e ≡ b → ArePlaced n (filter f es) → ArePlaced n (filter f (e ∷ es))
    by true is rest = rw is (placed.0, rest)
    by false is rest = rw is rest

pub ArePlaced-push : (n : ℕ) (es : List Name) (e : Name) → e.place < n → ArePlaced n es → ArePlaced n (es ++ e ∷ [])
ArePlaced-push n [] e below placed = (below, placed)
ArePlaced-push n (x ∷ es) e below placed = (placed.0, ArePlaced-push n es e below placed.1)

pub ArePlaced-more : (n m : ℕ) (es : List Name) → n ≤ m → ArePlaced n es → ArePlaced m es
ArePlaced-more n m [] le placed = placed
ArePlaced-more n m (e ∷ es) le placed = (omega (arith, le, placed.0), ArePlaced-more n m es le placed.1)

-- all names of a number lead to one place
abbrev pub OnePlace : ℕ → ℕ → List Name → Type 0
OnePlace n i [] = ⊤
OnePlace n i (e ∷ es) = (e.number ≡ n → e.place ≡ i) × OnePlace n i es

OnePlace-above : (n i low high : ℕ) (es : List Name) → n ≤ low → NamesRise low high es → OnePlace n i es
OnePlace-above n i low high [] le rise = _
OnePlace-above n i low high (e ∷ es) le rise = ((λ is. absurd (omega (arith, is, rise.0))), OnePlace-above n i e.number high es (omega (arith, rise.0)) rise.1)

pub OnePlace-found : (low high : ℕ) (es : List Name) (h : HNum) (e : Name) → NamesRise low high es → name_in es h ≡ Some e → OnePlace h.0 e.place es
OnePlace-found low high [] h e rise found = absurd (none-some e found)
OnePlace-found low high (x ∷ es) h e rise found = by (eqb h.0 x.number) refl (OnePlace-found x.number high es h e rise.1)
  where
    by : (b : Bool) → eqb h.0 x.number ≡ b → (name_in es h ≡ Some e → OnePlace h.0 e.place es) → OnePlace h.0 e.place (x ∷ es)
    by true is rest =
        let same : h.0 ≡ x.number = grind (arith, nat_tests) in
        let here : x ≡ e = same_Some x e (rw is at found) in
        ((λ n. ap (λ (t : Name). t.place) here), OnePlace-above h.0 e.place x.number high es (omega arith) rise.1)
    by false is rest =
        let apart : h.0 ≢ x.number = grind (arith, nat_tests) in
        ((λ n. absurd (apart (sym n))), rest (rw is at found))

-- the name that is found has the number, and leads where all do
pub name_in-number : (es : List Name) (h : HNum) (e : Name) → name_in es h ≡ Some e → e.number ≡ h.0
name_in-number [] h e found = absurd (none-some e found)
name_in-number (x ∷ es) h e found = by (eqb h.0 x.number) refl (name_in-number es h e)
  where
    by : (b : Bool) → eqb h.0 x.number ≡ b → (name_in es h ≡ Some e → e.number ≡ h.0) → e.number ≡ h.0
    by true is rest =
        let same : h.0 ≡ x.number = grind (arith, nat_tests) in
        ap (λ (t : Name). t.number) (sym (same_Some x e (rw is at found))) ∙ sym same
    by false is rest = rest (rw is at found)

-- the row of a number stands in a slot, to which its name leads
pub record Stands (ss : List Slot) (es : List Name) (h : HNum) (r : HandleRow) (name : Name) : Type 0 where
  pub slot : Slot
  pub kept : Kept
  pub found : name_in es h ≡ Some name
  pub number : name.number ≡ h.0
  pub there : slice_get ss name.place ≡ Some slot
  pub row : slot.row ≡ Some kept
  pub same_number : kept.number ≡ h.0
  pub is : row_at h.0 slot.peer kept ≡ r
  pub within : name.place < length ss

pub stands : (high : ℕ) (ss : List Slot) (es : List Name) (h : HNum) (r : HandleRow) (e : Name) → NamesRise 0 high es → name_in es h ≡ Some e → row_in (rows_of ss es) h ≡ Some r → Stands ss es h r e
stands high ss es h r e rise found is = by_slot (slice_get ss e.place) refl (rw found at (sym (row_in-named 0 high ss es h rise) ∙ is))
  where
    by_kept : (s : Slot) (o : Option Kept) → slice_get ss e.place ≡ Some s → s.row ≡ o → kept_row e.number s.peer o ≡ Some r → Stands ss es h r e
    by_kept s None there row given = absurd (none-some r given)
    by_kept s (Some k) there row given = by (eqb e.number k.number) refl
      where
        by : (b : Bool) → eqb e.number k.number ≡ b → Stands ss es h r e
        by true t =
            let same : e.number ≡ k.number = grind (arith, nat_tests) in
            let number = name_in-number es h e found in
            record {
              slot = s;
              kept = k;
              found = found;
              number = number;
              there = there;
              row = row;
              same_number = sym same ∙ number;
              is = rw (← number) (same_Some (row_at e.number s.peer k) r (rw t at given));
              within = slice_get_within ss e.place s there;
            }
        by false t = absurd (none-some r (rw t at given))

    by_slot : (o : Option Slot) → slice_get ss e.place ≡ o → option_and_then (row_of e.number) o ≡ Some r → Stands ss es h r e
    by_slot None there given = absurd (none-some r given)
    by_slot (Some s) there given = by_kept s s.row there refl given

-- and where no name is found there is no row
pub not_found : (high : ℕ) (ss : List Slot) (es : List Name) (h : HNum) (r : HandleRow) → NamesRise 0 high es → name_in es h ≡ None → row_in (rows_of ss es) h ≡ Some r → ⊥
not_found high ss es h r rise none is = none-some r (rw none at (sym (row_in-named 0 high ss es h rise) ∙ is))

-- what was looked up stands as before where names that lead to no row are left out
pub stands_still : (high : ℕ) (ss : List Slot) (es less : List Name) (h : HNum) (r : HandleRow) (e : Name)
    → NamesRise 0 high es → NamesRise 0 high less → name_in es h ≡ Some e → row_in (rows_of ss es) h ≡ Some r
    → (is_named ss e ≡ true → name_in less h ≡ Some e) → rows_of ss less ≡ rows_of ss es → Stands ss less h r e
stands_still high ss es less h r e rise still found row left rows =
    let named : named_row ss e ≡ Some r = rw found at (sym (row_in-named 0 high ss es h rise) ∙ row) in
    let is : is_named ss e ≡ true = rw named refl in
    stands high ss less h r e still (left is) (rw rows row)

-- slots in which one place has another row
abbrev slot_with : Slot → Option Kept → Slot
slot_with s row = record { peer = s.peer; next = s.next; previous = s.previous; row = row }

with_row-here : (ss : List Slot) (i : ℕ) (o : Option Kept) (s : Slot) → slice_get ss i ≡ Some s → slice_get (with_row ss i o) i ≡ Some (slot_with s o)
with_row-here [] i o s there = absurd (none-some s there)
with_row-here (u ∷ ss) zero o s there = rw (same_Some u s there) refl
with_row-here (u ∷ ss) (suc i) o s there = with_row-here ss i o s there

with_row-other : (ss : List Slot) (i j : ℕ) (o : Option Kept) → j ≢ i → slice_get (with_row ss i o) j ≡ slice_get ss j
with_row-other [] i j o apart = refl
with_row-other (u ∷ ss) zero zero o apart = absurd (apart refl)
with_row-other (u ∷ ss) zero (suc j) o apart = refl
with_row-other (u ∷ ss) (suc i) zero o apart = refl
with_row-other (u ∷ ss) (suc i) (suc j) o apart = with_row-other ss i j o (λ e. apart (ap suc e))

-- what a name leads to after a write, and after it before
named-here : (ss : List Slot) (i : ℕ) (o : Option Kept) (s : Slot) (e : Name) → slice_get ss i ≡ Some s → e.place ≡ i → named_row (with_row ss i o) e ≡ kept_row e.number s.peer o
named-here ss i o s e there here = rw (here, with_row-here ss i o s there) refl

named-other : (ss : List Slot) (i : ℕ) (o : Option Kept) (e : Name) → e.place ≢ i → named_row (with_row ss i o) e ≡ named_row ss e
named-other ss i o e apart = rw (with_row-other ss i e.place o apart) refl

named-was : (ss : List Slot) (i : ℕ) (s : Slot) (e : Name) → slice_get ss i ≡ Some s → e.place ≡ i → named_row ss e ≡ kept_row e.number s.peer s.row
named-was ss i s e there here = rw (here, there) refl

-- what a name leads to is changed as its row is: to write the row of the place of a number is to change that row
changed-kept : (f : HandleRow → HandleRow) (h : HNum) (n : ℕ) (p : PNum) (o : Option Kept) (k k' : Kept) → o ≡ Some k → k.number ≡ h.0 → k'.number ≡ h.0
    → f (row_at h.0 p k) ≡ row_at h.0 p k' → (rows : List HandleRow) → put (kept_row n p (Some k')) (changed f h rows) ≡ changed f h (put (kept_row n p o) rows)
changed-kept f h n p o k k' is number number' gives rows = rw (is, number, number') (by (eqb n h.0) refl)
  where
    by : (b : Bool) → eqb n h.0 ≡ b → put (cond (eqb n h.0) (Some (row_at n p k')) None) (changed f h rows) ≡ changed f h (put (cond (eqb n h.0) (Some (row_at n p k)) None) rows)
    by true e =
        let same : n ≡ h.0 = grind (arith, nat_tests) in
        rw (e, same, eq-eqb h.0 h.0 refl, gives) refl
    by false e = rw e refl

changed-other : (f : HandleRow → HandleRow) (h : HNum) (n : ℕ) (o : Option HandleRow) → ((r : HandleRow) → o ≡ Some r → r.number.0 ≡ n)
    → n ≢ h.0 → (rows : List HandleRow) → put o (changed f h rows) ≡ changed f h (put o rows)
changed-other f h n None number apart rows = refl
changed-other f h n (Some r) number apart rows =
    let no : h.0 ≢ r.number.0 = λ e. apart (sym (number r refl) ∙ sym e) in
    rw (neq-eqb h.0 r.number.0 no) refl

pub changed-rows : (f : HandleRow → HandleRow) (ss : List Slot) (es : List Name) (h : HNum) (i : ℕ) (s : Slot) (k k' : Kept) → OnePlace h.0 i es → slice_get ss i ≡ Some s
    → s.row ≡ Some k → k.number ≡ h.0 → k'.number ≡ h.0 → f (row_at h.0 s.peer k) ≡ row_at h.0 s.peer k' → rows_of (with_row ss i (Some k')) es ≡ changed f h (rows_of ss es)
changed-rows f ss [] h i s k k' one there row number number' gives = refl
changed-rows f ss (e ∷ es) h i s k k' one there row number number' gives =
    rw (changed-rows f ss es h i s k k' one.1 there row number number' gives) (elim (cases_eq e.place i) [
      | inl here ↦ rw (named-here ss i (Some k') s e there here, named-was ss i s e there here) (changed-kept f h e.number s.peer s.row k k' row number number' gives (rows_of ss es))
      | inr apart ↦ rw (named-other ss i (Some k') e apart) (changed-other f h e.number (named_row ss e) (named_row-number ss e) (λ n. apart (one.0 n)) (rows_of ss es))
    ])

-- to write what has another number there is to leave the row out
without-other : (h : HNum) (n : ℕ) (o : Option HandleRow) → ((r : HandleRow) → o ≡ Some r → r.number.0 ≡ n) → n ≢ h.0 → (rows : List HandleRow) → put o (without h rows) ≡ without h (put o rows)
without-other h n None number apart rows = refl
without-other h n (Some r) number apart rows =
    let no : h.0 ≢ r.number.0 = λ e. apart (sym (number r refl) ∙ sym e) in
    rw (neq-eqb h.0 r.number.0 no) refl

without-kept : (h : HNum) (n : ℕ) (p : PNum) (k : Kept) → k.number ≡ h.0 → (rows : List HandleRow) → without h rows ≡ without h (put (kept_row n p (Some k)) rows)
without-kept h n p k number rows = rw number (by (eqb n h.0) refl)
  where
    by : (b : Bool) → eqb n h.0 ≡ b → without h rows ≡ without h (put (cond (eqb n h.0) (Some (row_at n p k)) None) rows)
    by true e =
        let same : n ≡ h.0 = grind (arith, nat_tests) in
        rw (e, same, eq-eqb h.0 h.0 refl) refl
    by false e = rw e refl

pub without-rows : (ss : List Slot) (es : List Name) (h : HNum) (low high : ℕ) (i : ℕ) (s : Slot) (k : Kept) (o : Option Kept) → OnePlace h.0 i es → NamesRise low high es
    → slice_get ss i ≡ Some s → s.row ≡ Some k → k.number ≡ h.0 → ((n : ℕ) → n ≤ high → kept_row n s.peer o ≡ None) → rows_of (with_row ss i o) es ≡ without h (rows_of ss es)
without-rows ss [] h low high i s k o one rise there row number gone = refl
without-rows ss (e ∷ es) h low high i s k o one rise there row number gone =
    rw (without-rows ss es h e.number high i s k o one.1 rise.1 there row number gone) (elim (cases_eq e.place i) [
      | inl here ↦ rw (named-here ss i o s e there here, named-was ss i s e there here, row, gone e.number (NamesRise-within e.number high es rise.1))
          (without-kept h e.number s.peer k number (rows_of ss es))
      | inr apart ↦ rw (named-other ss i o e apart) (without-other h e.number (named_row ss e) (named_row-number ss e) (λ n. apart (one.0 n)) (rows_of ss es))
    ])

-- the row that stands is removed with what its place keeps
pub removed-rows : (high : ℕ) (ss : List Slot) (es : List Name) (h : HNum) (r : HandleRow) (e : Name)
    → NamesRise 0 high es → Stands ss es h r e → rows_of (with_row ss e.place None) es ≡ without h (rows_of ss es)
removed-rows high ss es h r e rise st = without-rows ss es h 0 high e.place st.slot st.kept None (OnePlace-found 0 high es h e rise st.found) rise st.there st.row st.same_number (λ n le. refl)

-- it gets another strength with what its place keeps
abbrev pub strong_as : HNum → HandleRow → Strength → Kept
strong_as h r strength = record { number = h.0; hold = r.hold; strength = strength; cleared = r.cleared }

pub strength-rows : (high : ℕ) (ss : List Slot) (es : List Name) (h : HNum) (r : HandleRow) (e : Name) (strength : Strength) → NamesRise 0 high es
    → Stands ss es h r e → rows_of (with_row ss e.place (Some (strong_as h r strength))) es ≡ changed (with_strength strength) h (rows_of ss es)
strength-rows high ss es h r e strength rise st = changed-rows (with_strength strength) ss es h e.place st.slot st.kept
    (strong_as h r strength) (OnePlace-found 0 high es h e rise st.found) st.there st.row st.same_number refl (rw (← st.is) refl)

-- what its place keeps differs from that by the strength alone
pub by-strength : (ss : List Slot) (es : List Name) (h : HNum) (r : HandleRow) (e : Name) (strength : Strength) → Stands ss es h r e
    → DiffersByStrength ss e.place (strong_as h r strength)
by-strength ss es h r e strength st =
    record { slot = st.slot; before = st.kept; there = st.there; row = st.row; is = rw (st.same_number, ← st.is) refl }

-- and its place keeps no more of it than that
pub kept-cleared : (ss : List Slot) (es : List Name) (h : HNum) (r : HandleRow) (e : Name) → (st : Stands ss es h r e) → (kept_at ss e.place ≡ Some st.kept) × (r.cleared ≡ st.kept.cleared)
kept-cleared ss es h r e st = (rw st.there st.row, ap (λ (t : HandleRow). t.cleared) (sym st.is))

-- a name that is put last puts its row last
put-append : (o : Option HandleRow) (a b : List HandleRow) → put o (a ++ b) ≡ put o a ++ b
put-append None a b = refl
put-append (Some r) a b = refl

pub rows_of-push : (ss : List Slot) (es : List Name) (e : Name) → rows_of ss (es ++ e ∷ []) ≡ rows_of ss es ++ put (named_row ss e) []
rows_of-push ss [] e = refl
rows_of-push ss (x ∷ es) e = rw (rows_of-push ss es e) (put-append (named_row ss x) (rows_of ss es) (put (named_row ss e) []))

-- a slot more, to which no name leads, changes no row
get_push : (ss : List Slot) (s : Slot) (i : ℕ) → i < length ss → slice_get (ss ++ s ∷ []) i ≡ slice_get ss i
get_push [] s i below = absurd (omega arith)
get_push (u ∷ ss) s zero below = refl
get_push (u ∷ ss) s (suc i) below = get_push ss s i (omega arith)

get_last : (ss : List Slot) (s : Slot) (i : ℕ) → i ≡ length ss → slice_get (ss ++ s ∷ []) i ≡ Some s
get_last [] s i is = rw is refl
get_last (u ∷ ss) s zero is = absurd (omega arith)
get_last (u ∷ ss) s (suc i) is = get_last ss s i (omega arith)

pub rows_of-more : (ss : List Slot) (s : Slot) (es : List Name) → ArePlaced (length ss) es → rows_of (ss ++ s ∷ []) es ≡ rows_of ss es
rows_of-more ss s [] placed = refl
rows_of-more ss s (e ∷ es) placed = rw (rows_of-more ss s es placed.1, get_push ss s e.place placed.0) refl

-- what a place says of a number that its row has
pub named_row-at : (ss : List Slot) (e : Name) (s : Slot) (k : Kept) → slice_get ss e.place ≡ Some s → s.row ≡ Some k → k.number ≡ e.number → named_row ss e ≡ Some (row_at e.number s.peer k)
named_row-at ss e s k there row number = rw (there, row, number, eq-eqb e.number e.number refl) refl

-- a slot and its name, both put last, put its row last
pub rows_of-made : (ss : List Slot) (es : List Name) (s : Slot) (e : Name) (k : Kept) → ArePlaced (length ss) es → e.place ≡ length ss
    → s.row ≡ Some k → k.number ≡ e.number → rows_of (ss ++ s ∷ []) (es ++ e ∷ []) ≡ rows_of ss es ++ row_at e.number s.peer k ∷ []
rows_of-made ss es s e k placed place row number =
    rw (rows_of-push (ss ++ s ∷ []) es e, rows_of-more ss s es placed, named_row-at (ss ++ s ∷ []) e s k (get_last ss s e.place place) row number) refl

-- a row renewed in its place under a greater number goes last
pub rows_of-renewed : (ss : List Slot) (es : List Name) (h : HNum) (high : ℕ) (s : Slot) (e : Name) (k k' : Kept) → OnePlace h.0 e.place es
    → NamesRise 0 high es → slice_get ss e.place ≡ Some s → s.row ≡ Some k → k.number ≡ h.0 → k'.number ≡ e.number → high < e.number
    → rows_of (with_row ss e.place (Some k')) (es ++ e ∷ []) ≡ without h (rows_of ss es) ++ row_at e.number s.peer k' ∷ []
rows_of-renewed ss es h high s e k k' one rise there row number number' above =
    rw (
      rows_of-push (with_row ss e.place (Some k')) es e,
      without-rows ss es h 0 high e.place s k (Some k') one rise there row number gone,
      named_row-at (with_row ss e.place (Some k')) e (slot_with s (Some k')) k' (with_row-here ss e.place (Some k') s there) refl number',
    ) refl
  where
    gone : (n : ℕ) → n ≤ high → kept_row n s.peer (Some k') ≡ None
    gone n le =
        let apart : n ≢ k'.number = omega arith in
        rw (neq-eqb n k'.number apart) refl

-- what is kept of a row that a restore gives
abbrev pub kept_anew : ℕ → Kept
kept_anew n = record { number = n; hold = Held; strength = Strong; cleared = false }

abbrev pub name_anew : ℕ → Name → Name
name_anew n e = record { number = n; place = e.place }

pub renewed-rows : (high n : ℕ) (ss : List Slot) (es : List Name) (h : HNum) (r : HandleRow) (e : Name)
    → NamesRise 0 high es → high < n → Stands ss es h r e → row_in (rows_of ss es) h ≡ Some r → r.cleared ≡ false
    → rows_of (with_row ss e.place (Some (kept_anew n))) (es ++ name_anew n e ∷ []) ≡ renewed h (record { 0 = n }) (rows_of ss es)
renewed-rows high n ss es h r e rise above st row uncleared =
    let target : target_in (rows_of ss es) h ≡ Some st.slot.peer = rw (row, uncleared) (ap (λ (t : HandleRow). Some t.peer) (sym st.is)) in
    let goes = rows_of-renewed ss es h high st.slot (name_anew n e) st.kept (kept_anew n) (OnePlace-found 0 high es h e rise st.found) rise st.there st.row st.same_number refl above in
    rw target goes

-- so there are as many rows as before
pub length-renewed : (high n : ℕ) (ss : List Slot) (es : List Name) (h : HNum) (r : HandleRow) (e : Name)
    → NamesRise 0 high es → high < n → Stands ss es h r e → row_in (rows_of ss es) h ≡ Some r → r.cleared ≡ false
    → length (rows_of (with_row ss e.place (Some (kept_anew n))) (es ++ name_anew n e ∷ [])) ≡ length (rows_of ss es)
length-renewed high n ss es h r e rise above st row uncleared =
    let goes = rows_of-renewed ss es h high st.slot (name_anew n e) st.kept (kept_anew n) (OnePlace-found 0 high es h e rise st.found) rise st.there st.row st.same_number refl above in
    omega (arith, ap length goes, length_push (without h (rows_of ss es)) (row_at n st.slot.peer (kept_anew n)), length-without 0 high (rows_of ss es) h r (RisesBetween-named 0 high ss es rise) row)

-- a cleared slot's row is cleared
cleared-put : (p : PNum) (n : ℕ) (s : Slot) (o : Option Kept) (rows : List HandleRow) → s.row ≡ o
    → put (row_of n (cleared_slot p s)) (cleared_for p rows) ≡ cleared_for p (put (kept_row n s.peer o) rows)
cleared-put p n s o rows row = by (eqb p.0 s.peer.0) o refl row
  where
    by_number : (t : Bool) (k : Kept) → eqb p.0 s.peer.0 ≡ true
        → put (cond t (Some (row_at n s.peer (cleared_kept k))) None) (cleared_for p rows) ≡ cleared_for p (put (cond t (Some (row_at n s.peer k)) None) rows)
    by_number true k is = rw is refl
    by_number false k is = refl

    by_other : (t : Bool) (k : Kept) → eqb p.0 s.peer.0 ≡ false → put (cond t (Some (row_at n s.peer k)) None) (cleared_for p rows) ≡ cleared_for p (put (cond t (Some (row_at n s.peer k)) None) rows)
    by_other true k is = rw is refl
    by_other false k is = refl

    by : (b : Bool) (o : Option Kept) → eqb p.0 s.peer.0 ≡ b → s.row ≡ o → put (row_of n (cleared_slot p s)) (cleared_for p rows) ≡ cleared_for p (put (kept_row n s.peer o) rows)
    by true None is row = rw (is, row) refl
    by true (Some k) is row = rw (is, row) (by_number (eqb n k.number) k is)
    by false None is row = rw (is, row) refl
    by false (Some k) is row = rw (is, row) (by_other (eqb n k.number) k is)

get_map : (p : PNum) (ss : List Slot) (i : ℕ) → slice_get (map (cleared_slot p) ss) i ≡ option_map (cleared_slot p) (slice_get ss i)
get_map p [] i = refl
get_map p (s ∷ ss) zero = refl
get_map p (s ∷ ss) (suc i) = get_map p ss i

cleared-slot : (p : PNum) (n : ℕ) (o : Option Slot) (rows : List HandleRow)
    → put (option_and_then (row_of n) (option_map (cleared_slot p) o)) (cleared_for p rows) ≡ cleared_for p (put (option_and_then (row_of n) o) rows)
cleared-slot p n None rows = refl
cleared-slot p n (Some s) rows = cleared-put p n s s.row rows refl

-- to clear each slot is to clear each row
pub cleared_for-rows : (p : PNum) (ss : List Slot) (es : List Name) → rows_of (map (cleared_slot p) ss) es ≡ cleared_for p (rows_of ss es)
cleared_for-rows p ss [] = refl
cleared_for-rows p ss (e ∷ es) = rw (cleared_for-rows p ss es, get_map p ss e.place) (cleared-slot p e.number (slice_get ss e.place) (rows_of ss es))

-- without the holes the rows are the same, and there are as many names as rows
pub rows_of-filter : (ss : List Slot) (es : List Name) → rows_of ss (filter (is_named ss) es) ≡ rows_of ss es
rows_of-filter ss [] = refl
rows_of-filter ss (e ∷ es) = by (named_row ss e) refl (rows_of-filter ss es)
  where
    by : (o : Option HandleRow) → named_row ss e ≡ o → rows_of ss (filter (is_named ss) es) ≡ rows_of ss es → rows_of ss (filter (is_named ss) (e ∷ es)) ≡ rows_of ss (e ∷ es)
    by None is rest = rw is rest
    by (Some r) is rest = rw (is, is) (ap (λ t. r ∷ t) rest)

pub length-filter_named : (ss : List Slot) (es : List Name) → length (filter (is_named ss) es) ≡ length (rows_of ss es)
length-filter_named ss [] = refl
length-filter_named ss (e ∷ es) = by (named_row ss e) refl (length-filter_named ss es)
  where
    by : (o : Option HandleRow) → named_row ss e ≡ o → length (filter (is_named ss) es) ≡ length (rows_of ss es) → length (filter (is_named ss) (e ∷ es)) ≡ length (rows_of ss (e ∷ es))
    by None is rest = rw is rest
    by (Some r) is rest = rw is (ap suc rest)

-- without the holes at the front the rows are the same, and each name that leads to one is found as before
rows_of-put_none : (ss : List Slot) (e : Name) (es : List Name) → is_named ss e ≡ false → rows_of ss (e ∷ es) ≡ rows_of ss es
rows_of-put_none ss e es hole = by (named_row ss e) refl
  where
    by : (o : Option HandleRow) → named_row ss e ≡ o → rows_of ss (e ∷ es) ≡ rows_of ss es
    by None is = rw is refl
    by (Some r) is = (let f : true ≡ false = rw is at hole in cc)

pub rows_of-drop : (ss : List Slot) (n : ℕ) (es : List Name) → AreHoles ss n es → rows_of ss (drop n es) ≡ rows_of ss es
rows_of-drop ss zero es holes = refl
rows_of-drop ss (suc n) [] holes = refl
rows_of-drop ss (suc n) (e ∷ es) holes =
    rows_of-drop ss n es (λ i x lt at. holes (suc i) x (omega (arith, lt)) at) ∙ sym (rows_of-put_none ss e es (holes 0 e (omega arith) refl))

pub NamesRise-drop : (low high n : ℕ) (es : List Name) → NamesRise low high es → NamesRise low high (drop n es)
NamesRise-drop low high zero es rise = rise
NamesRise-drop low high (suc n) [] rise = rise
NamesRise-drop low high (suc n) (e ∷ es) rise = NamesRise-low low e.number high (drop n es) (omega (arith, rise.0)) (NamesRise-drop e.number high n es rise.1)

pub ArePlaced-drop : (m n : ℕ) (es : List Name) → ArePlaced m es → ArePlaced m (drop n es)
ArePlaced-drop m zero es placed = placed
ArePlaced-drop m (suc n) [] placed = placed
ArePlaced-drop m (suc n) (e ∷ es) placed = ArePlaced-drop m n es placed.1

pub name_in-drop : (ss : List Slot) (n : ℕ) (es : List Name) (h : HNum) (e : Name) → AreHoles ss n es → name_in es h ≡ Some e → is_named ss e ≡ true
    → name_in (drop n es) h ≡ Some e
name_in-drop ss zero es h e holes found named = found
name_in-drop ss (suc n) [] h e holes found named = absurd (none-some e found)
name_in-drop ss (suc n) (x ∷ es) h e holes found named = by (eqb h.0 x.number) refl (name_in-drop ss n es h e (λ i y lt at. holes (suc i) y (omega (arith, lt)) at))
  where
    by : (b : Bool) → eqb h.0 x.number ≡ b → (name_in es h ≡ Some e → is_named ss e ≡ true → name_in (drop n es) h ≡ Some e) → name_in (drop n es) h ≡ Some e
    by true same rest =
        let here : Some x ≡ Some e = rw same at found in
        absurd (true-false (is_named ss x) (rw (← same_Some x e here) at named) (holes 0 x (omega arith) refl))
    by false apart rest = rest (rw apart at found) named

-- there are no more rows than names, and no fewer where there is no hole: then each name leads to its row
length-put-le : (o : Option HandleRow) (rows : List HandleRow) (n : ℕ) → length rows ≤ n → length (put o rows) ≤ suc n
length-put-le None rows n le = omega arith
length-put-le (Some r) rows n le = omega arith

pub length-rows-le : (ss : List Slot) (es : List Name) → length (rows_of ss es) ≤ length es
length-rows-le ss [] = omega arith
length-rows-le ss (e ∷ es) = length-put-le (named_row ss e) (rows_of ss es) (length es) (length-rows-le ss es)

pub rows_of-nth : (ss : List Slot) (es : List Name) (i : ℕ) → length es ≤ length (rows_of ss es) → slice_get (rows_of ss es) i ≡ option_and_then (named_row ss) (slice_get es i)
rows_of-nth ss [] i le = refl
rows_of-nth ss (e ∷ es) i le = by (named_row ss e) i refl (rows_of-nth ss es)
  where
    by : (o : Option HandleRow) (i : ℕ) → named_row ss e ≡ o → ((j : ℕ) → length es ≤ length (rows_of ss es) → slice_get (rows_of ss es) j ≡ option_and_then (named_row ss) (slice_get es j))
        → slice_get (rows_of ss (e ∷ es)) i ≡ option_and_then (named_row ss) (slice_get (e ∷ es) i)
    by None i is rest =
        let few : suc (length es) ≤ length (rows_of ss es) = rw is at le in
        absurd (omega (arith, few, length-rows-le ss es))
    by (Some r) zero is rest = rw is refl
    by (Some r) (suc i) is rest =
        let more : suc (length es) ≤ suc (length (rows_of ss es)) = rw is at le in
        rw is (rest i (omega (arith, more)))

-- where no name has a number, none is found
pub name_in-none : (es : List Name) (h : HNum) → ((i : ℕ) (e : Name) → slice_get es i ≡ Some e → e.number ≢ h.0) → name_in es h ≡ None
name_in-none [] h none = refl
name_in-none (e ∷ es) h none = rw (neq-eqb h.0 e.number (λ is. none 0 e refl (sym is))) (name_in-none es h (λ i x at. none (suc i) x at))

-- the numbers of later names are greater, by one at least from name to name
pub NamesRise-above : (low high : ℕ) (es : List Name) (i : ℕ) (e : Name) → NamesRise low high es → slice_get es i ≡ Some e → low + i < e.number
NamesRise-above low high [] i e rise at = absurd (none-some e at)
NamesRise-above low high (x ∷ es) zero e rise at = rw (← same_Some x e at) (omega (arith, rise.0))
NamesRise-above low high (x ∷ es) (suc i) e rise at = omega (arith, rise.0, NamesRise-above x.number high es i e rise.1 at)

pub NamesRise-order : (low high : ℕ) (es : List Name) (i j : ℕ) (a b : Name) → NamesRise low high es → i < j → slice_get es i ≡ Some a → slice_get es j ≡ Some b → a.number + j ≤ b.number + i
NamesRise-order low high [] i j a b rise less at at' = absurd (none-some a at)
NamesRise-order low high (x ∷ es) zero zero a b rise less at at' = absurd (omega arith)
NamesRise-order low high (x ∷ es) zero (suc j) a b rise less at at' = rw (← same_Some x a at) (omega (arith, NamesRise-above x.number high es j b rise.1 at'))
NamesRise-order low high (x ∷ es) (suc i) zero a b rise less at at' = absurd (omega arith)
NamesRise-order low high (x ∷ es) (suc i) (suc j) a b rise less at at' = omega (arith, NamesRise-order x.number high es i j a b rise.1 (omega arith) at at')

-- and so up to a name itself
pub NamesRise-apart : (low high : ℕ) (es : List Name) (i j : ℕ) (a b : Name) → NamesRise low high es → i ≤ j → slice_get es i ≡ Some a → slice_get es j ≡ Some b → a.number + j ≤ b.number + i
NamesRise-apart low high es i j a b rise le at at' = elim (cases_lt i j) [
  | inl lt ↦ NamesRise-order low high es i j a b rise lt at at'
  | inr ge ↦
      let here : j ≡ i = omega arith in
      let same : a ≡ b = same_Some a b (sym at ∙ (rw here at at')) in
      rw (same, here) (omega arith)
]

-- a name is found by its number
pub name_in-here : (low high : ℕ) (es : List Name) (i : ℕ) (e : Name) (h : HNum) → NamesRise low high es → slice_get es i ≡ Some e → e.number ≡ h.0 → name_in es h ≡ Some e
name_in-here low high [] i e h rise at is = absurd (none-some e at)
name_in-here low high (x ∷ es) zero e h rise at is =
    let same = same_Some x e at in
    rw (same, eq-eqb h.0 e.number (sym is)) refl
name_in-here low high (x ∷ es) (suc i) e h rise at is =
    let apart : h.0 ≢ x.number = omega (arith, is, NamesRise-above x.number high es i e rise.1 at) in
    rw (neq-eqb h.0 x.number apart) (name_in-here x.number high es i e h rise.1 at is)

-- where a name is found there is a first one, whose number is no greater
pub found-above : (low high : ℕ) (es : List Name) (h : HNum) → NamesRise low high es → name_in es h ≢ None → low < h.0
found-above low high [] h rise found = absurd (found refl)
found-above low high (e ∷ es) h rise found = by (eqb h.0 e.number) refl (found-above e.number high es h rise.1)
  where
    by : (b : Bool) → eqb h.0 e.number ≡ b → (name_in es h ≢ None → e.number < h.0) → low < h.0
    by true is rest =
        let same : h.0 ≡ e.number = grind (arith, nat_tests) in
        omega (arith, same, rise.0)
    by false is rest = omega (arith, rise.0, rest (λ none. found (rw is none)))

pub first-below : (low high : ℕ) (es : List Name) (h : HNum) (x : Name) → NamesRise low high es → name_in es h ≢ None → slice_get es 0 ≡ Some x → x.number ≤ h.0
first-below low high [] h x rise found at = absurd (none-some x at)
first-below low high (e ∷ es) h x rise found at = by (eqb h.0 e.number) refl (found-above e.number high es h rise.1)
  where
    here : e ≡ x
    here = same_Some e x at

    by : (b : Bool) → eqb h.0 e.number ≡ b → (name_in es h ≢ None → e.number < h.0) → x.number ≤ h.0
    by true is rest =
        let same : h.0 ≡ e.number = grind (arith, nat_tests) in
        rw (← here) (omega (arith, same))
    by false is rest = rw (← here) (omega (arith, rest (λ none. found (rw is none))))

pub found-some : (es : List Name) (h : HNum) → name_in es h ≢ None → 0 < length es
found-some [] h found = absurd (found refl)
found-some (e ∷ es) h found = omega arith

pub some_name : (es : List Name) (h : HNum) → name_in es h ≢ None → (e : Name) × (name_in es h ≡ Some e)
some_name es h found = by (name_in es h) refl
  where
    by : (o : Option Name) → name_in es h ≡ o → (e : Name) × (name_in es h ≡ Some e)
    by None is = absurd (found is)
    by (Some e) is = (e, is)

-- a number with a row has a name
pub named-some : (high : ℕ) (ss : List Slot) (es : List Name) (h : HNum) → NamesRise 0 high es → row_in (rows_of ss es) h ≢ None → name_in es h ≢ None
named-some high ss es h rise there = λ none. there (rw (row_in-named 0 high ss es h rise, none) refl)

pub some_row : (o : Option HandleRow) → o ≢ None → (r : HandleRow) × (o ≡ Some r)
some_row None some = absurd (some refl)
some_row (Some r) some = (r, refl)

-- a place within a list has something
pub get_some : (rows : List HandleRow) (i : ℕ) → i < length rows → slice_get rows i ≡ None → ⊥
get_some [] i below none = omega arith
get_some (r ∷ rs) zero below none = none-some r (sym none)
get_some (r ∷ rs) (suc i) below none = get_some rs i (omega arith) none

-- names before the middle have smaller numbers than it, those behind it greater ones
pub below-middle : (high : ℕ) (es : List Name) (m n : ℕ) (x : Name) → NamesRise 0 high es
    → slice_get es m ≡ Some x → x.number < n → (i : ℕ) (e : Name) → i < m + 1 → slice_get es i ≡ Some e → e.number < n
below-middle high es m n x rise there less i e below at = elim (cases_lt i m) [
  | inl lt ↦ omega (arith, NamesRise-order 0 high es i m e x rise lt at there)
  | inr ge ↦
      let here : i ≡ m = omega arith in
      let same : x ≡ e = same_Some x e (sym there ∙ (rw here at at)) in
      rw (← same) less
]

pub above-middle : (high : ℕ) (es : List Name) (m n : ℕ) (x : Name) → NamesRise 0 high es → slice_get es m ≡ Some x → n < x.number → (i : ℕ) (e : Name) → m ≤ i → slice_get es i ≡ Some e → n < e.number
above-middle high es m n x rise there less i e le at = elim (cases_lt m i) [
  | inl lt ↦ omega (arith, NamesRise-order 0 high es m i x e rise lt there at)
  | inr ge ↦
      let here : i ≡ m = omega arith in
      let same : x ≡ e = same_Some x e (sym there ∙ (rw here at at)) in
      rw (← same) less
]
