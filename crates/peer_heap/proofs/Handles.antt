-- The replay has a row for each handle ever issued, None where it isn't in the table; the table has the rows that are
-- left. To make a handle puts one row last; to change or remove the row of one number changes that place alone. Each is
-- an induction over the numbers.
use Rattle.std.proofs.Common.{Bool, true, false, eqb, ◌≡◌, ◌≢◌, ℕ, inl, inr, zero, suc, ◌+◌, ◌≤◌, List, [], ◌∷◌, ◌++◌, length, map, Option, Some, None, refl, sym, ap, ◌∙◌, arith, length-append}
use Rattle.std.specs.Option.{option_map, option_and_then}
use Rattle.std.specs.Prelude.{if◌then◌else◌}
use Rattle.std.proofs.Math.ListN.{set}
use Rattle.std.proofs.Math.Seq.{set-append_seam}
use Rattle.std.proofs.lemmas.List.{set-append_left, set_past, map-append}
use Rattle.std.proofs.lemmas.Bool.{cases_order, cases_eq, cases_lt}
use Rattle.std.proofs.lemmas.Option.{same_Some, slice_get-map}
use Rattle.joint_machine.specs.declared.names.HNum.{HNum}
use Rattle.joint_machine.specs.declared.names.PNum.{PNum}
use Rattle.joint_machine.specs.declared.names.Sort.{Sort}
use Rattle.joint_machine.proofs.Deciding.{none_some}
use Rattle.joint_machine.proofs.Numbered.{numbered-push_cases, numbered-push_old, numbered-push_new, numbered-past, numbered-within}
use Rattle.joint_machine.specs.Heaps.{numbered_at, numbered_set}
use Rattle.joint_machine.specs.Peers.{held, peer_of, strong}
use Rattle.joint_machine.specs.PeerReplay.{TableRow, opening_peer_replay, table_target}
use Rattle.global_handles.specs.declared.HandleRow.{HandleRow}
use Rattle.global_handles.specs.declared.Hold.TheVariants.{Held}
use Rattle.global_handles.specs.declared.Strength.TheVariants.{Strong}
use Rattle.global_handles.specs.Rows.{Table, row_in, target_in, without, fresh_row, renewed, renewed_rows, RisesBetween, IsRising}
use Rattle.global_handles.proofs.Lookups.{row_in-push_other, row_in-push_new, row_in-above, row_in-without_same, row_in-without_other}
use Rattle.global_handles.proofs.Rows.{RisesBetween-without, row_in-below}
use Rattle.row_heap.specs.Rows.{HeapRows}
use Rattle.peer_heap.specs.declared.issues.Issue.{Issue}
use Rattle.peer_heap.specs.Rows.{table_to, row_as, rows_with, with_rows, issued_as, issued_to, number_of, AreRowsIssued}
use Rattle.peer_heap.proofs.Roots.{table_to-count}

-- the row of a number, as the replay has it
abbrev pub seen_in : List HandleRow → ℕ → Option TableRow
seen_in rows n = option_map row_as (row_in rows record { 0 = n })

-- the rows are seen by their numbers alone
pub table_to-same : (old new : List HandleRow) (n : ℕ) → ((k : ℕ) → k ≤ n → row_in new record { 0 = k } ≡ row_in old record { 0 = k }) → table_to new n ≡ table_to old n
table_to-same old new zero same = refl
table_to-same old new (suc n) same =
    let before : table_to new n ≡ table_to old n = table_to-same old new n (λ k le. same k (omega arith)) in
    let last : seen_in new (suc n) ≡ seen_in old (suc n) = ap (λ r. option_map row_as r) (same (suc n) (omega arith)) in
    rw (before, last) refl

-- a handle that is made comes last
pub table_to-push : (rows : List HandleRow) (r : HandleRow) (n : ℕ) → r.number.0 ≡ suc n → RisesBetween 0 n rows → table_to (rows ++ r ∷ []) (suc n) ≡ table_to rows n ++ Some (row_as r) ∷ []
table_to-push rows r n number rises =
    let none : row_in rows r.number ≡ None = row_in-above 0 n rows r.number (omega arith) rises in
    let before : table_to (rows ++ r ∷ []) n ≡ table_to rows n = table_to-same rows (rows ++ r ∷ []) n (λ k le. row_in-push_other rows r record { 0 = k } (omega arith)) in
    let name : r.number ≡ record { 0 = suc n } = ap (λ (m : ℕ). (let h : HNum = record { 0 = m } in h)) number in
    let here : row_in (rows ++ r ∷ []) record { 0 = suc n } ≡ Some r = ap (λ (h : HNum). row_in (rows ++ r ∷ []) h) (sym name) ∙ row_in-push_new rows r none in
    rw (before, here) refl

-- the row of one number changes, and the others stay
pub table_to-set : (old new : List HandleRow) (h n : ℕ) (x : Option TableRow)
    → ((k : ℕ) → k ≢ h → row_in new record { 0 = k } ≡ row_in old record { 0 = k }) → seen_in new h ≡ x → table_to new n ≡ numbered_set (table_to old n) h x
table_to-set old new zero zero x others here = refl
table_to-set old new zero (suc n) x others here =
    let before : table_to new n ≡ table_to old n = table_to-set old new zero n x others here in
    let last : seen_in new (suc n) ≡ seen_in old (suc n) = ap (λ r. option_map row_as r) (others (suc n) (omega arith)) in
    ap (λ t. t ++ seen_in new (suc n) ∷ []) before ∙ ap (λ y. table_to old n ++ y ∷ []) last
table_to-set old new (suc i) zero x others here = refl
table_to-set old new (suc i) (suc n) x others here =
    let before : table_to new n ≡ set (table_to old n) i x = table_to-set old new (suc i) n x others here in
    elim (cases_order i n) [
      | inl same ↦
          let past : set (table_to old n) i x ≡ table_to old n = set_past (table_to old n) i x (omega (arith, table_to-count old n)) in
          let at : length (table_to old n) ≡ i = omega (arith, table_to-count old n) in
          let last : seen_in new (suc n) ≡ x = ap (λ k. seen_in new (suc k)) (sym same) ∙ here in
          let seam : set (table_to old n ++ seen_in old (suc n) ∷ []) (length (table_to old n)) x ≡ table_to old n ++ x ∷ [] = set-append_seam (table_to old n) (seen_in old (suc n)) [] x in
          ap (λ t. t ++ seen_in new (suc n) ∷ []) (before ∙ past) ∙ (ap (λ y. table_to old n ++ y ∷ []) last ∙ (sym seam ∙ ap (λ k. set (table_to old n ++ seen_in old (suc n) ∷ []) k x) at))
      | inr (inl less) ↦
          let last : seen_in new (suc n) ≡ seen_in old (suc n) = ap (λ r. option_map row_as r) (others (suc n) (omega arith)) in
          let left : set (table_to old n ++ seen_in old (suc n) ∷ []) i x ≡ set (table_to old n) i x ++ seen_in
          old (suc n) ∷ [] = set-append_left (table_to old n) (seen_in old (suc n) ∷ []) i x (omega (arith, table_to-count old n)) in
          ap (λ t. t ++ seen_in new (suc n) ∷ []) before ∙ (ap (λ y. set (table_to old n) i x ++ y ∷ []) last ∙ sym left)
      | inr (inr more) ↦
          let last : seen_in new (suc n) ≡ seen_in old (suc n) = ap (λ r. option_map row_as r) (others (suc n) (omega arith)) in
          let past : set (table_to old n) i x ≡ table_to old n = set_past (table_to old n) i x (omega (arith, table_to-count old n)) in
          let all : set (table_to old n ++ seen_in old (suc n) ∷ []) i x ≡ table_to old n ++ seen_in
          old (suc n) ∷ [] = set_past (table_to old n ++ seen_in old (suc n) ∷ []) i x (omega (arith, table_to-count old n, length-append (table_to old n) (seen_in old (suc n) ∷ []))) in
          ap (λ t. t ++ seen_in new (suc n) ∷ []) (before ∙ past) ∙ (ap (λ y. table_to old n ++ y ∷ []) last ∙ sym all)
    ]

-- to remove a row empties its place
pub table_to-without : (rows : List HandleRow) (h n : ℕ) → table_to (without record { 0 = h } rows) n ≡ numbered_set (table_to rows n) h None
table_to-without rows h n = table_to-set rows (without record { 0 = h } rows) h n None
    (λ k apart. row_in-without_other rows record { 0 = h } record { 0 = k } apart) (ap (λ r. option_map row_as r) (row_in-without_same rows record { 0 = h }))

-- what is seen of a row is seen of one that is there
mapped : (o : Option HandleRow) (row : TableRow) → option_map row_as o ≡ Some row → (r : HandleRow) × (o ≡ Some r)
mapped None row e = absurd (none_some row e)
mapped (Some r) row e = (r, refl)

-- a number that the table shows has a row
pub row_in-shown : (rows : List HandleRow) (h n : ℕ) (row : TableRow) → numbered_at (table_to rows n) h ≡ Some (Some row) → (r : HandleRow) × (row_in rows record { 0 = h } ≡ Some r)
row_in-shown rows zero n row at = absurd (none_some (Some row) at)
row_in-shown rows (suc i) zero row at = absurd (none_some (Some row) at)
row_in-shown rows (suc i) (suc n) row at = elim (numbered-push_cases (table_to rows n) (seen_in rows (suc n)) (suc i) (Some row) at) [
  | inl w ↦ row_in-shown rows (suc i) n row w
  | inr w ↦
      let same : suc i ≡ suc n = omega (arith, w.0, table_to-count rows n) in
      let found = mapped (row_in rows record { 0 = suc n }) row w.1 in
      (found.0, ap (λ k. row_in rows record { 0 = k }) same ∙ found.1)
]

-- and it is shown as that row
pub shown-is : (rows : List HandleRow) (h n : ℕ) (row : TableRow) (r : HandleRow) → numbered_at (table_to rows n) h ≡ Some (Some row) → row_in rows record { 0 = h } ≡ Some r → row_as r ≡ row
shown-is rows zero n row r at found = absurd (none_some (Some row) at)
shown-is rows (suc i) zero row r at found = absurd (none_some (Some row) at)
shown-is rows (suc i) (suc n) row r at found = elim (numbered-push_cases (table_to rows n) (seen_in rows (suc n)) (suc i) (Some row) at) [
  | inl w ↦ shown-is rows (suc i) n row r w found
  | inr w ↦
      let same : suc i ≡ suc n = omega (arith, w.0, table_to-count rows n) in
      same_Some (row_as r) row (ap (option_map row_as) (sym (ap (λ k. row_in rows record { 0 = k }) (sym same) ∙ found)) ∙ w.1)
]

-- no row is added where one may go
pub length-without_le : (rows : List HandleRow) (h : HNum) → length (without h rows) ≤ length rows
length-without_le [] h = omega arith
length-without_le (x ∷ rs) h = by (eqb h.0 x.number.0) refl (length-without_le rs h)
  where
    by : (b : Bool) → eqb h.0 x.number.0 ≡ b → length (without h rs) ≤ length rs → length (without h (x ∷ rs)) ≤ length (x ∷ rs)
    by true e rest = rw e (omega arith)
    by false e rest = rw e (omega arith)

-- a handle is issued
pub rows-issued : (rows : HeapRows) (sorts : List Sort) (names : List (Option ℕ)) (issued after : List Issue) (old new : Table) (i : Issue) (h : HNum) → after ≡ issued ++ i ∷ []
    → h.0 ≡ old.last + 1 → new.rows ≡ old.rows ++ fresh_row h i.peer i.hold i.strength ∷ [] → new.made ≡ old.made + 1 → new.last ≡ old.last + 1 → IsRising old
    → rows_with rows sorts names after new ≡ issued_to (rows_with rows sorts names issued old) i
rows-issued rows sorts names issued after old new i h e number put made last rises =
    let r = fresh_row h i.peer i.hold i.strength in
    let next : new.last ≡ suc old.last = omega (arith, last) in
    let table : table_to new.rows new.last ≡ table_to old.rows old.last ++ Some (row_as r) ∷ [] = ap (λ z. table_to z new.last) put
    ∙ (ap (λ n. table_to (old.rows ++ r ∷ []) n) next ∙ table_to-push old.rows r old.last (omega (arith, number)) rises) in
    let count : length new.rows ≡ length old.rows + 1 = ap length put ∙ length-append old.rows (r ∷ []) in
    let list : map issued_as after ≡ map issued_as issued ++ issued_as i ∷ [] = ap (map issued_as) e ∙ map-append issued_as issued (i ∷ []) in
    rw (table, count, list, made) refl

-- a handle is removed
pub rows-removed : (rows : HeapRows) (sorts : List Sort) (names : List (Option ℕ)) (issued : List Issue) (old new : Table) (h : HNum)
    → new.rows ≡ without h old.rows → new.made ≡ old.made → new.last ≡ old.last
    → rows_with rows sorts names issued new ≡ record (rows_with rows sorts names issued old) { table = numbered_set (table_to old.rows old.last) h.0 None; tabled = length new.rows }
rows-removed rows sorts names issued old new h left made last =
    let table : table_to new.rows new.last ≡ numbered_set (table_to old.rows old.last) h.0 None = ap (λ z. table_to z new.last) left
    ∙ (ap (λ n. table_to (without h old.rows) n) last ∙ table_to-without old.rows h.0 old.last) in
    ap (λ (k : ℕ). record (rows_with rows sorts names issued old) { made = k; table = table_to new.rows new.last; tabled = length new.rows }) made
    ∙ ap (λ (t : List (Option TableRow)). record (rows_with rows sorts names issued old) { table = t; tabled = length new.rows }) table

-- a handle is removed, and one on its peer comes in its place
pub rows-renewed : (rows : HeapRows) (sorts : List Sort) (names : List (Option ℕ)) (issued after : List Issue) (old new : Table) (h g : HNum) (p : PNum)
    → after ≡ issued ++ record { peer = p; hold = Held; strength = Strong } ∷ [] → target_in old.rows h ≡ Some p → g.0 ≡ old.last + 1 → new.rows ≡ renewed h g old.rows
    → new.made ≡ old.made → new.last ≡ old.last + 1 → IsRising old → length new.rows ≡ length old.rows
    → rows_with rows sorts names after new ≡ record (rows_with rows sorts names issued old) {
      issued = map issued_as issued ++ record { peer = p.0; hold = held; strength = strong } ∷ [];
      table = numbered_set (table_to old.rows old.last) h.0 None ++ Some record { strength = strong; cleared = false } ∷ [];
    }
rows-renewed rows sorts names issued after old new h g p e there number put made last rises count =
    let i : Issue = record { peer = p; hold = Held; strength = Strong } in
    let r : HandleRow = fresh_row g p Held Strong in
    let left = without h old.rows in
    let next : new.last ≡ suc old.last = omega (arith, last) in
    let all : new.rows ≡ left ++ r ∷ [] = put ∙ ap (λ o. left ++ renewed_rows g o) there in
    let still : RisesBetween 0 old.last left = RisesBetween-without h 0 old.last old.rows rises in
    let table : table_to new.rows new.last ≡ numbered_set (table_to old.rows old.last) h.0 None ++ Some (row_as r) ∷ [] =
    ap (λ z. table_to z new.last) all ∙ (ap (λ n. table_to (left ++ r ∷ []) n) next
    ∙ (table_to-push left r old.last (omega (arith, number)) still ∙ ap (λ t. t ++ Some (row_as r) ∷ []) (table_to-without old.rows h.0 old.last))) in
    let list : map issued_as after ≡ map issued_as issued ++ issued_as i ∷ [] = ap (map issued_as) e ∙ map-append issued_as issued (i ∷ []) in
    rw (table, count, list, made) refl

-- what a number of the table shows is what its row shows
table_to-at : (rows : List HandleRow) (h n : ℕ) → 1 ≤ h → h ≤ n → numbered_at (table_to rows n) h ≡ Some (seen_in rows h)
table_to-at rows h zero low high = absurd (omega (arith, low, high))
table_to-at rows h (suc n) low high = elim (cases_order h (suc n)) [
  | inl same ↦
      let at : length (table_to rows n) + 1 ≡ h = omega (arith, table_to-count rows n) in
      ap (λ k. numbered_at (table_to rows n ++ seen_in rows (suc n) ∷ []) k) (sym at) ∙ (numbered-push_new (table_to rows n) (seen_in rows (suc n)) ∙ ap (λ k. Some (seen_in rows k)) (sym same))
  | inr (inl less) ↦ numbered-push_old (table_to rows n) (seen_in rows (suc n)) h (omega (arith, table_to-count rows n)) ∙ table_to-at rows h n low (omega arith)
  | inr (inr more) ↦ absurd (omega (arith, more, high))
]

pub row-shown : (rows : List HandleRow) (h n : ℕ) → RisesBetween 0 n rows → elim (numbered_at (table_to rows n) h) [ None ↦ None | Some row ↦ row ] ≡ seen_in rows h
row-shown rows zero n rises = ap (λ o. option_map row_as o) (sym (row_in-below 0 n rows record { 0 = zero } (omega arith) rises))
row-shown rows (suc k) n rises = elim (cases_lt n (suc k)) [
  | inl past ↦
      let none : numbered_at (table_to rows n) (suc k) ≡ None = numbered-past (table_to rows n) (suc k) (omega (arith, table_to-count rows n)) in
      ap (λ o. elim o [ None ↦ None | Some row ↦ row ]) none ∙ ap (λ o. option_map row_as o) (sym (row_in-above 0 n rows record { 0 = suc k } past rises))
  | inr within ↦ ap (λ o. elim o [ None ↦ None | Some row ↦ row ]) (table_to-at rows (suc k) n (omega arith) (omega arith))
]

-- the peer of a handle that was issued
pub numbered_at-map : (issued : List Issue) (n : ℕ) (i : Issue) → numbered_at issued n ≡ Some i → numbered_at (map issued_as issued) n ≡ Some (issued_as i)
numbered_at-map issued zero i at = absurd (none_some i at)
numbered_at-map issued (suc k) i at = slice_get-map issued_as issued k ∙ ap (λ o. option_map issued_as o) at

pub peer_of-issued : (issued : List Issue) (n : ℕ) (i : Issue) → numbered_at issued n ≡ Some i → peer_of (map issued_as issued) n ≡ Some i.peer.0
peer_of-issued issued n i at = ap (λ o. elim o [ None ↦ None | Some j ↦ Some j.peer ]) (numbered_at-map issued n i at)

-- a handle leads where its row does
pub target-shown : (rows : HeapRows) (sorts : List Sort) (names : List (Option ℕ)) (issued : List Issue) (table : Table) (h : HNum) → IsRising table → AreRowsIssued table.rows issued
    → table_target (with_rows opening_peer_replay (rows_with rows sorts names issued table)) h.0 ≡ number_of (target_in table.rows h)
target-shown rows sorts names issued table h rises all = ap (λ z. elim z [ None ↦ None | Some row ↦ if row.cleared then None else peer_of (map issued_as issued) h.0 ])
    (row-shown table.rows h.0 table.last rises) ∙ by (row_in table.rows h) refl
  where
    shut : (b : Bool) (p : PNum) → peer_of (map issued_as issued) h.0 ≡ Some p.0 → (if b then None else peer_of (map issued_as issued) h.0) ≡ number_of (if b then None else Some p)
    shut true p e = refl
    shut false p e = e

    by : (o : Option HandleRow) → row_in table.rows h ≡ o → elim (option_map row_as o)
        [ None ↦ None | Some row ↦ if row.cleared then None else peer_of (map issued_as issued) h.0 ] ≡ number_of (option_and_then (λ r. if r.cleared then None else Some r.peer) o)
    by None e = refl
    by (Some r) e =
        let found = all h r e in
        shut r.cleared r.peer (peer_of-issued issued h.0 found.0 found.1 ∙ ap (λ (q : PNum). Some q.0) found.2)

-- the rows of the table stay those of issued handles, where one is issued or removed
pub AreRowsIssued-pushed : (issued after : List Issue) (old new : Table) (i : Issue) (h : HNum) → after ≡ issued ++ i ∷ []
    → h.0 ≡ old.last + 1 → new.rows ≡ old.rows ++ fresh_row h i.peer i.hold i.strength ∷ [] → old.last ≡ length issued → IsRising old
    → AreRowsIssued old.rows issued → AreRowsIssued new.rows after
AreRowsIssued-pushed issued after old new i h e number put places rises all = λ k r at. elim (cases_eq k.0 h.0) [
  | inl same ↦
      let none : row_in old.rows h ≡ None = row_in-above 0 old.last old.rows h (omega (arith, number)) rises in
      let k-is : k ≡ h = ap (λ (m : ℕ). (let q : HNum = record { 0 = m } in q)) same in
      let here : row_in (old.rows ++ fresh ∷ []) h ≡ Some fresh = row_in-push_new old.rows fresh none in
      let row : fresh ≡ r = same_Some fresh r (sym here ∙ (ap (λ z. row_in (old.rows ++ fresh ∷ []) z) (sym k-is) ∙ (ap (λ z. row_in z k) (sym put) ∙ at))) in
      let place : k.0 ≡ length issued + 1 = omega (arith, same, number, places) in
      (i, ap (λ z. numbered_at z k.0) e ∙ (ap (λ n. numbered_at (issued ++ i ∷ []) n) place ∙ numbered-push_new issued i), ap (λ (z : HandleRow). z.peer) row)
  | inr other ↦
      let old-row : row_in old.rows k ≡ Some r = sym (row_in-push_other old.rows fresh k other) ∙ (ap (λ z. row_in z k) (sym put) ∙ at) in
      let found = all k r old-row in
      let within = numbered-within issued k.0 found.0 found.1 in
      (found.0, ap (λ z. numbered_at z k.0) e ∙ (numbered-push_old issued i k.0 within.1 ∙ found.1), found.2)
]
  where
    fresh : HandleRow
    fresh = fresh_row h i.peer i.hold i.strength

pub AreRowsIssued-removed : (issued : List Issue) (old new : Table) (h : HNum) → new.rows ≡ without h old.rows → AreRowsIssued old.rows issued → AreRowsIssued new.rows issued
AreRowsIssued-removed issued old new h left all = λ k r at.
    let there : row_in (without h old.rows) k ≡ Some r = ap (λ z. row_in z k) (sym left) ∙ at in
    elim (cases_eq k.0 h.0) [
      | inl same ↦
          let k-is : k ≡ h = ap (λ (m : ℕ). (let q : HNum = record { 0 = m } in q)) same in
          absurd (none_some r (sym (row_in-without_same old.rows h) ∙ (ap (λ z. row_in (without h old.rows) z) (sym k-is) ∙ there)))
      | inr other ↦ all k r (sym (row_in-without_other old.rows h k other) ∙ there)
    ]

pub AreRowsIssued-renewed : (issued after : List Issue) (old new : Table) (i : Issue) (h g : HNum) → after ≡ issued ++ i ∷ []
    → g.0 ≡ old.last + 1 → new.rows ≡ without h old.rows ++ fresh_row g i.peer i.hold i.strength ∷ [] → old.last ≡ length issued → IsRising old
    → AreRowsIssued old.rows issued → AreRowsIssued new.rows after
AreRowsIssued-renewed issued after old new i h g e number put places rises all =
    let left : Table = record old { rows = without h old.rows } in
    AreRowsIssued-pushed issued after left new i g e number put places (RisesBetween-without h 0 old.last old.rows rises) (AreRowsIssued-removed issued old left h refl all)
