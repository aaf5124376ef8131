-- How many handles a table has: as many as there are rows, since these rise.
use Rattle.std.proofs.Common.{◌≡◌, ℕ, zero, suc, ◌+◌, ◌<◌, ◌≤◌, Bool, true, false, cond, nat_lt, List, [], ◌∷◌, ◌++◌, length, Option, Some, None, inl, inr, refl, sym, ap, ◌∙◌, arith, eq-eqb}
use Rattle.std.specs.Prelude.{count_by, is_some}
use Rattle.std.specs.Option.{option_map}
use Rattle.std.proofs.lemmas.Bool.{cases_lt, cases_eq, ltb-true, ltb-false}
use Rattle.std.proofs.lemmas.List.Sums.{sum_by_push}
use Rattle.joint_machine.specs.PeerReplay.{TableRow}
use Rattle.joint_machine.proofs.Deciding.{neq-eqb}
use Rattle.global_handles.specs.declared.HandleRow.{HandleRow}
use Rattle.global_handles.specs.Rows.{row_in, RisesBetween}
use Rattle.global_handles.proofs.Rows.{row_in-below}
use Rattle.global_handles.proofs.Lookups.{RisesBetween-within}
use Rattle.peer_heap.specs.Rows.{row_as, table_to}

-- how many rows of rising ones have a number up to n
abbrev up_to : ℕ → List HandleRow → ℕ
up_to n [] = 0
up_to n (r ∷ rs) = cond (nat_lt n r.number.0) 0 (suc (up_to n rs))

abbrev weight : {A : Type 0} → Option A → ℕ
weight o = cond (is_some o) 1 0

above : (n : ℕ) (r : HandleRow) (rs : List HandleRow) → n < r.number.0 → up_to n (r ∷ rs) ≡ 0
above n r rs l = by (nat_lt n r.number.0) refl
  where
    by : (b : Bool) → nat_lt n r.number.0 ≡ b → cond b 0 (suc (up_to n rs)) ≡ 0
    by true e = refl
    by false e = absurd (omega (arith, l, ltb-false n r.number.0 e))

within : (n : ℕ) (r : HandleRow) (rs : List HandleRow) → r.number.0 ≤ n → up_to n (r ∷ rs) ≡ suc (up_to n rs)
within n r rs l = by (nat_lt n r.number.0) refl
  where
    by : (b : Bool) → nat_lt n r.number.0 ≡ b → cond b 0 (suc (up_to n rs)) ≡ suc (up_to n rs)
    by true e = absurd (omega (arith, l, ltb-true n r.number.0 e))
    by false e = refl

none : (low high n : ℕ) (rows : List HandleRow) → RisesBetween low high rows → n ≤ low → up_to n rows ≡ 0
none low high n [] rises l = refl
none low high n (r ∷ rs) rises l = above n r rs (omega (arith, l, rises.0))

all : (low high n : ℕ) (rows : List HandleRow) → RisesBetween low high rows → high ≤ n → up_to n rows ≡ length rows
all low high n [] rises l = refl
all low high n (r ∷ rs) rises l = within n r rs (omega (arith, l, RisesBetween-within r.number.0 high rs rises.1)) ∙ ap suc (all r.number.0 high n rs rises.1 l)

-- the row of the next number counts
next : (low high n : ℕ) (rows : List HandleRow) → RisesBetween low high rows → low ≤ n → up_to (suc n) rows ≡ up_to n rows + weight (row_in rows record { 0 = suc n })
next low high n [] rises l = refl
next low high n (r ∷ rs) rises l = elim (cases_lt n r.number.0) [
  | inr w ↦
      let apart = neq-eqb (suc n) r.number.0 (λ e. omega (arith, e, w)) in
      let rest = next r.number.0 high n rs rises.1 w in
      let here = within (suc n) r rs (omega (arith, w)) in
      let there = within n r rs w in
      rw apart (omega (arith, here, there, rest))
  | inl w ↦ elim (cases_eq (suc n) r.number.0) [
    | inl e ↦
        let here = within (suc n) r rs (omega (arith, e)) in
        let rest = none r.number.0 high (suc n) rs rises.1 (omega (arith, e)) in
        let there = above n r rs w in
        let found = eq-eqb (suc n) r.number.0 e in
        rw found (omega (arith, here, rest, there))
    | inr e ↦
        let here = above (suc n) r rs (omega (arith, e, w)) in
        let there = above n r rs w in
        let lacks = row_in-below (suc n) high (r ∷ rs) record { 0 = suc n } (omega arith) (omega (arith, e, w), rises.1) in
        rw lacks (omega (arith, here, there))
  ]
]

mapped : (o : Option HandleRow) → weight (option_map row_as o) ≡ weight o
mapped None = refl
mapped (Some r) = refl

counted : (high n : ℕ) (rows : List HandleRow) → RisesBetween 0 high rows → count_by is_some (table_to rows n) ≡ up_to n rows
counted high zero rows rises = sym (none 0 high 0 rows rises (omega arith))
counted high (suc n) rows rises =
    let o = option_map row_as (row_in rows record { 0 = suc n }) in
    let more : count_by is_some (table_to rows n ++ o ∷ []) ≡ count_by is_some (table_to rows n) + weight o = sum_by_push (λ (x : Option TableRow). weight x) (table_to rows n) o in
    omega (arith, more, counted high n rows rises, mapped (row_in rows record { 0 = suc n }), next 0 high n rows rises (omega arith))

pub rows-tabled : (made : ℕ) (rows : List HandleRow) → RisesBetween 0 made rows → count_by is_some (table_to rows made) ≡ length rows
rows-tabled made rows rises = counted made made rows rises ∙ all 0 made made rows rises (omega arith)
