-- What a table's user needs of its rows: a look-up after each change. A call changes
-- the row of one number or the rows of one peer, so each look-up of another number stays as it was; each fact is
-- an induction over the rows, by whether the first row has the number.
use Rattle.std.proofs.Common.{◌≡◌, ◌≢◌, ℕ, ◌<◌, ◌≤◌, eqb, Bool, true, false, List, [], ◌∷◌, ◌++◌, zero, suc, slice_get, None, Some, refl, sym, ap, ◌∙◌, eq-eqb, arith}
use Rattle.std.proofs.lemmas.Option.{none-some, same_Some}
use Rattle.std.proofs.lemmas.Bool.Decides.{nat_tests}
use Rattle.joint_machine.specs.declared.names.HNum.{HNum}
use Rattle.joint_machine.proofs.Deciding.{neq-eqb}
use Rattle.global_handles.specs.declared.HandleRow.{HandleRow}
use Rattle.global_handles.specs.Rows.{row_in, changed, without, RisesBetween}

-- what rises between two numbers keeps them in order
pub RisesBetween-within : (low high : ℕ) (rows : List HandleRow) → RisesBetween low high rows → low ≤ high
RisesBetween-within low high [] rises = rises
RisesBetween-within low high (r ∷ rs) rises = omega (arith, RisesBetween-within r.number.0 high rs rises.1)

-- a number above the last isn't in rising rows: the next number of a table is new
pub row_in-above : (low high : ℕ) (rows : List HandleRow) (h : HNum) → high < h.0 → RisesBetween low high rows → row_in rows h ≡ None
row_in-above low high [] h above rises = refl
row_in-above low high (r ∷ rs) h above rises =
    let apart : h.0 ≢ r.number.0 = omega (arith, RisesBetween-within r.number.0 high rs rises.1) in
    rw (neq-eqb h.0 r.number.0 apart) (row_in-above r.number.0 high rs h above rises.1)

-- a row that is put last is found, and each other look-up stays
pub row_in-push_new : (rows : List HandleRow) (r : HandleRow) → row_in rows r.number ≡ None → row_in (rows ++ r ∷ []) r.number ≡ Some r
row_in-push_new [] r none =
    let here : eqb r.number.0 r.number.0 ≡ true = eq-eqb r.number.0 r.number.0 refl in
    rw here refl
row_in-push_new (x ∷ rs) r none = by (eqb r.number.0 x.number.0) refl (row_in-push_new rs r)
  where
    by : (b : Bool) → eqb r.number.0 x.number.0 ≡ b → (row_in rs r.number ≡ None → row_in (rs ++ r ∷ []) r.number ≡ Some r) → row_in (x ∷ (rs ++ r ∷ [])) r.number ≡ Some r
    by true is rest =
        let found : row_in (x ∷ rs) r.number ≡ Some x = rw is refl in
        absurd (none-some x (sym none ∙ found))
    by false is rest =
        let left : row_in rs r.number ≡ None = rw is at none in
        rw is (rest left)

pub row_in-push_other : (rows : List HandleRow) (r : HandleRow) (h : HNum) → h.0 ≢ r.number.0 → row_in (rows ++ r ∷ []) h ≡ row_in rows h
row_in-push_other [] r h other = rw (neq-eqb h.0 r.number.0 other) refl
row_in-push_other (x ∷ rs) r h other = by (eqb h.0 x.number.0) refl (row_in-push_other rs r h other)
  where
    by : (b : Bool) → eqb h.0 x.number.0 ≡ b → row_in (rs ++ r ∷ []) h ≡ row_in rs h → row_in (x ∷ (rs ++ r ∷ [])) h ≡ row_in (x ∷ rs) h
    by true is rest = rw is refl
    by false is rest = rw is rest

-- a change of one row is seen at its number alone
pub row_in-changed_same : (f : HandleRow → HandleRow) (rows : List HandleRow) (h : HNum) (r : HandleRow)
    → ((x : HandleRow) → (f x).number ≡ x.number) → row_in rows h ≡ Some r → row_in (changed f h rows) h ≡ Some (f r)
row_in-changed_same f [] h r keeps is = absurd (none-some r is)
row_in-changed_same f (x ∷ rs) h r keeps is = by (eqb h.0 x.number.0) refl (row_in-changed_same f rs h r keeps)
  where
    by : (b : Bool) → eqb h.0 x.number.0 ≡ b → (row_in rs h ≡ Some r → row_in (changed f h rs) h ≡ Some (f r)) → row_in (changed f h (x ∷ rs)) h ≡ Some (f r)
    by true e rest =
        let found : Some x ≡ Some r = rw e at is in
        let there : eqb h.0 (f x).number.0 ≡ true = rw (keeps x) e in
        rw (e, there) (ap (λ t. Some (f t)) (same_Some x r found))
    by false e rest =
        let left : row_in rs h ≡ Some r = rw e at is in
        rw (e, e) (rest left)

pub row_in-changed_other : (f : HandleRow → HandleRow) (rows : List HandleRow) (h other : HNum)
    → ((x : HandleRow) → (f x).number ≡ x.number) → other.0 ≢ h.0 → row_in (changed f h rows) other ≡ row_in rows other
row_in-changed_other f [] h other keeps apart = refl
row_in-changed_other f (x ∷ rs) h other keeps apart = by (eqb h.0 x.number.0) refl (row_in-changed_other f rs h other keeps apart)
  where
    by : (b : Bool) → eqb h.0 x.number.0 ≡ b → row_in (changed f h rs) other ≡ row_in rs other → row_in (changed f h (x ∷ rs)) other ≡ row_in (x ∷ rs) other
    by true e rest =
        let here : h.0 ≡ x.number.0 = grind (arith, nat_tests) in
        let no : other.0 ≢ x.number.0 = λ same. apart (same ∙ sym here) in
        rw (e, keeps x, neq-eqb other.0 x.number.0 no) rest
    by false e rest = rw (e, rest) refl

-- a removal is seen at its number alone
pub row_in-without_same : (rows : List HandleRow) (h : HNum) → row_in (without h rows) h ≡ None
row_in-without_same [] h = refl
row_in-without_same (x ∷ rs) h = by (eqb h.0 x.number.0) refl (row_in-without_same rs h)
  where
    by : (b : Bool) → eqb h.0 x.number.0 ≡ b → row_in (without h rs) h ≡ None → row_in (without h (x ∷ rs)) h ≡ None
    by true e rest = rw e rest
    by false e rest = rw (e, e) rest

pub row_in-without_other : (rows : List HandleRow) (h other : HNum) → other.0 ≢ h.0 → row_in (without h rows) other ≡ row_in rows other
row_in-without_other [] h other apart = refl
row_in-without_other (x ∷ rs) h other apart = by (eqb h.0 x.number.0) refl (row_in-without_other rs h other apart)
  where
    by : (b : Bool) → eqb h.0 x.number.0 ≡ b → row_in (without h rs) other ≡ row_in rs other → row_in (without h (x ∷ rs)) other ≡ row_in (x ∷ rs) other
    by true e rest =
        let here : h.0 ≡ x.number.0 = grind (arith, nat_tests) in
        let no : other.0 ≢ x.number.0 = λ same. apart (same ∙ sym here) in
        rw (e, neq-eqb other.0 x.number.0 no) rest
    by false e rest = rw (e, rest) refl

-- what a pass over all rows reads at a place is found under its number, and each row that is found is read at some
-- place
RisesBetween-nth : (low high : ℕ) (rows : List HandleRow) (i : ℕ) (r : HandleRow) → RisesBetween low high rows → slice_get rows i ≡ Some r → low < r.number.0
RisesBetween-nth low high [] i r rises at = absurd (none-some r at)
RisesBetween-nth low high (x ∷ rs) zero r rises at = rw (← same_Some x r at) rises.0
RisesBetween-nth low high (x ∷ rs) (suc i) r rises at = omega (arith, rises.0, RisesBetween-nth x.number.0 high rs i r rises.1 at)

pub row_in-nth : (low high : ℕ) (rows : List HandleRow) (i : ℕ) (r : HandleRow) → RisesBetween low high rows → slice_get rows i ≡ Some r → row_in rows r.number ≡ Some r
row_in-nth low high [] i r rises at = absurd (none-some r at)
row_in-nth low high (x ∷ rs) zero r rises at = rw (same_Some x r at, eq-eqb r.number.0 r.number.0 refl) refl
row_in-nth low high (x ∷ rs) (suc i) r rises at =
    let apart : r.number.0 ≢ x.number.0 = omega (arith, RisesBetween-nth x.number.0 high rs i r rises.1 at) in
    rw (neq-eqb r.number.0 x.number.0 apart) (row_in-nth x.number.0 high rs i r rises.1 at)

pub row_in-place : (rows : List HandleRow) (h : HNum) (r : HandleRow) → row_in rows h ≡ Some r → (i : ℕ) × (slice_get rows i ≡ Some r)
row_in-place [] h r is = absurd (none-some r is)
row_in-place (x ∷ rs) h r is = by (eqb h.0 x.number.0) refl (row_in-place rs h r)
  where
    by : (b : Bool) → eqb h.0 x.number.0 ≡ b → (row_in rs h ≡ Some r → (i : ℕ) × (slice_get rs i ≡ Some r)) → (i : ℕ) × (slice_get (x ∷ rs) i ≡ Some r)
    by true e rest = (0, rw e at is)
    by false e rest = let later = rest (rw e at is) in (suc later.0, later.1)
