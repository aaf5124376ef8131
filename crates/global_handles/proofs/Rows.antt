-- A number at or below the first of rising rows is in none of them: each row's number is above the one before.
-- So no row has it, a change to its row changes nothing, and to leave it out leaves all rows. By this a look-up,
-- a change and a removal each find their one row, and pass over all others.
use Rattle.std.proofs.Common.{◌≡◌, ◌≢◌, ℕ, ◌+◌, ◌≤◌, eqb, Bool, true, false, List, [], ◌∷◌, length, None, Some, refl, sym, ap, ◌∙◌, arith}
use Rattle.std.proofs.lemmas.Option.{none-some}
use Rattle.std.proofs.lemmas.Bool.Decides.{nat_tests}
use Rattle.joint_machine.specs.declared.names.HNum.{HNum}
use Rattle.joint_machine.proofs.Deciding.{neq-eqb}
use Rattle.global_handles.specs.declared.HandleRow.{HandleRow}
use Rattle.global_handles.specs.Rows.{row_in, changed, without, RisesBetween}

-- what rises above a number rises above each smaller one
pub RisesBetween-low : (a b c : ℕ) (rows : List HandleRow) → a ≤ b → RisesBetween b c rows → RisesBetween a c rows
RisesBetween-low a b c [] le rises = omega arith
RisesBetween-low a b c (r ∷ rs) le rises = (omega arith, rises.1)

-- rows rise without one of them too
pub RisesBetween-without : (h : HNum) (low high : ℕ) (rows : List HandleRow) → RisesBetween low high rows → RisesBetween low high (without h rows)
RisesBetween-without h low high [] rises = rises
RisesBetween-without h low high (r ∷ rs) rises = by (eqb h.0 r.number.0) refl (RisesBetween-without h r.number.0 high rs rises.1)
  where
    by : (b : Bool) → eqb h.0 r.number.0 ≡ b → RisesBetween r.number.0 high (without h rs) → RisesBetween low high (without h (r ∷ rs))
    by true is rest = rw is (RisesBetween-low low r.number.0 high (without h rs) (omega (arith, rises.0)) rest)
    by false is rest = rw is (rises.0, rest)

-- no row has a number that isn't above the first
pub row_in-below : (low high : ℕ) (rows : List HandleRow) (h : HNum) → h.0 ≤ low → RisesBetween low high rows → row_in rows h ≡ None
row_in-below low high [] h le rises = refl
row_in-below low high (r ∷ rs) h le rises =
    let apart : h.0 ≢ r.number.0 = omega arith in
    rw (neq-eqb h.0 r.number.0 apart) (row_in-below r.number.0 high rs h (omega arith) rises.1)

-- a change to the row of such a number changes nothing
pub changed-below : (f : HandleRow → HandleRow) (low high : ℕ) (rows : List HandleRow) (h : HNum) → h.0 ≤ low → RisesBetween low high rows → changed f h rows ≡ rows
changed-below f low high [] h le rises = refl
changed-below f low high (r ∷ rs) h le rises =
    let apart : h.0 ≢ r.number.0 = omega arith in
    rw (neq-eqb h.0 r.number.0 apart) (ap (λ t. r ∷ t) (changed-below f r.number.0 high rs h (omega arith) rises.1))

-- to leave such a number out leaves all rows
pub without-below : (low high : ℕ) (rows : List HandleRow) (h : HNum) → h.0 ≤ low → RisesBetween low high rows → without h rows ≡ rows
without-below low high [] h le rises = refl
without-below low high (r ∷ rs) h le rises =
    let apart : h.0 ≢ r.number.0 = omega arith in
    rw (neq-eqb h.0 r.number.0 apart) (ap (λ t. r ∷ t) (without-below r.number.0 high rs h (omega arith) rises.1))

-- where no row has a number, to leave it out leaves all rows
pub without-absent : (rows : List HandleRow) (h : HNum) → row_in rows h ≡ None → without h rows ≡ rows
without-absent [] h none = refl
without-absent (r ∷ rs) h none = by (eqb h.0 r.number.0) refl (without-absent rs h)
  where
    by : (b : Bool) → eqb h.0 r.number.0 ≡ b → (row_in rs h ≡ None → without h rs ≡ rs) → without h (r ∷ rs) ≡ r ∷ rs
    by true is rest =
        let found : row_in (r ∷ rs) h ≡ Some r = rw is refl in
        absurd (none-some r (sym none ∙ found))
    by false is rest =
        let left : row_in rs h ≡ None = rw is at none in
        rw is (ap (λ t. r ∷ t) (rest left))

-- without a row that is there one is left less
pub length-without : (low high : ℕ) (rows : List HandleRow) (h : HNum) (r : HandleRow) → RisesBetween low high rows → row_in rows h ≡ Some r → length (without h rows) + 1 ≡ length rows
length-without low high [] h r rises is = absurd (none-some r is)
length-without low high (x ∷ rs) h r rises is = by (eqb h.0 x.number.0) refl (length-without x.number.0 high rs h r rises.1)
  where
    by : (b : Bool) → eqb h.0 x.number.0 ≡ b → (row_in rs h ≡ Some r → length (without h rs) + 1 ≡ length rs) → length (without h (x ∷ rs)) + 1 ≡ length (x ∷ rs)
    by true e rest =
        let here : h.0 ≡ x.number.0 = grind (arith, nat_tests) in
        rw (e, without-below x.number.0 high rs h (omega arith) rises.1) (omega arith)
    by false e rest =
        let left : row_in rs h ≡ Some r = rw e at is in
        rw e (omega (arith, rest left))
