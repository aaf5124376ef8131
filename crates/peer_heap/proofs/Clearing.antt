-- Handles on peers that were freed are cleared, one peer after another. A row that is cleared keeps its number, its
-- peer and its strength, so what is to be cleared for the next peer stays to be found; and the table shows at each
-- number what the definition's clearing leaves there.
use Rattle.std.proofs.Common.{◌≡◌, ℕ, zero, suc, ◌+◌, ◌≤◌, Bool, true, false, ◌||◌, eqb, List, [], ◌∷◌, ◌++◌, map, length, take, Option, Some, None, if◌then◌else◌, nat_eq, refl, sym, ap, subst, ◌∙◌}
use Rattle.std.proofs.Common.{arith}
use Rattle.std.specs.List.{list_any}
use Rattle.std.specs.Option.{option_map}
use Rattle.std.specs.Prelude.{All}
use Rattle.std.proofs.lemmas.Bool.Decides.{nat_tests}
use Rattle.std.proofs.lemmas.List.{length-map, map-append}
use Rattle.std.proofs.lemmas.Option.{none-some, same_Some}
use Rattle.std.proofs.lemmas.List.Elements.{All-cons}
use Rattle.std.proofs.lemmas.List.Folds.{list_any-append}
use Rattle.joint_machine.specs.declared.names.HNum.{HNum}
use Rattle.joint_machine.specs.declared.names.PNum.{PNum}
use Rattle.joint_machine.specs.Heaps.{numbered_at}
use Rattle.joint_machine.specs.Peers.{Issued}
use Rattle.joint_machine.specs.PeerReplay.{TableRow, cleared_rows}
use Rattle.joint_machine.proofs.Numbered.{numbered-made}
use Rattle.global_handles.specs.declared.HandleRow.{HandleRow}
use Rattle.global_handles.specs.Rows.{IsWeakFor, cleared_for, cleared_row, row_in}
use Rattle.peer_heap.specs.declared.issues.Issue.{Issue}
use Rattle.peer_heap.specs.Marking.{cleared_on}
use Rattle.peer_heap.specs.Rows.{AreRowsIssued, issued_as, row_as, table_to}
use Rattle.peer_heap.proofs.Roots.{seen_in, table_to-count}
use Rattle.joint_machine.proofs.Members.{take-next}

-- whether a peer is one of those of the list
on-true : (xs : List ℕ) (r : HandleRow) → list_any (nat_eq r.peer.0) xs ≡ true → cleared_on xs r ≡ cleared_row r
on-true xs r e = ap (λ (b : Bool). if b then cleared_row r else r) e

on-false : (xs : List ℕ) (r : HandleRow) → list_any (nat_eq r.peer.0) xs ≡ false → cleared_on xs r ≡ r
on-false xs r e = ap (λ (b : Bool). if b then cleared_row r else r) e

any-push : (n : ℕ) (xs : List ℕ) (p : ℕ) → list_any (nat_eq n) (xs ++ p ∷ []) ≡ (list_any (nat_eq n) xs || nat_eq n p)
any-push n xs p = list_any-append (nat_eq n) xs (p ∷ []) ∙ ap (λ b. list_any (nat_eq n) xs || b) (last (nat_eq n p))
  where
    last : (b : Bool) → (b || false) ≡ b
    last true = refl
    last false = refl

eq-turned : (a b : ℕ) → nat_eq a b ≡ eqb b a
eq-turned a b = by (nat_eq a b) refl (eqb b a) refl
  where
    by : (x : Bool) → nat_eq a b ≡ x → (y : Bool) → eqb b a ≡ y → nat_eq a b ≡ eqb b a
    by true e true d = e ∙ sym d
    by true e false d = absurd (let f : ⊥ = grind (arith, nat_tests) in f)
    by false e true d = absurd (let f : ⊥ = grind (arith, nat_tests) in f)
    by false e false d = e ∙ sym d

-- the rows of one more peer
one-more : (xs : List ℕ) (p : PNum) (r : HandleRow) → (if eqb p.0 (cleared_on xs r).peer.0 then cleared_row (cleared_on xs r) else cleared_on xs r) ≡ cleared_on (xs ++ p.0 ∷ []) r
one-more xs p r = by (list_any (nat_eq r.peer.0) xs) refl
  where
    by : (a : Bool) → list_any (nat_eq r.peer.0) xs ≡ a → (if eqb p.0 (cleared_on xs r).peer.0 then cleared_row (cleared_on xs r) else cleared_on xs r) ≡ cleared_on (xs ++ p.0 ∷ []) r
    by true e = ap (λ (q : HandleRow). if eqb p.0 q.peer.0 then cleared_row q else q) (on-true xs r e)
        ∙ (twice (eqb p.0 r.peer.0) ∙ sym (on-true (xs ++ p.0 ∷ []) r (any-push r.peer.0 xs p.0 ∙ ap (λ b. b || nat_eq r.peer.0 p.0) e)))
      where
        twice : (b : Bool) → (if b then cleared_row (cleared_row r) else cleared_row r) ≡ cleared_row r
        twice true = refl
        twice false = refl
    by false e = ap (λ (q : HandleRow). if eqb p.0 q.peer.0 then cleared_row q else q) (on-false xs r e)
        ∙ ap (λ (b : Bool). if b then cleared_row r else r) (sym (any-push r.peer.0 xs p.0 ∙ (ap (λ b. b || nat_eq r.peer.0 p.0) e ∙ eq-turned r.peer.0 p.0)))

pub cleared-next : (xs : List ℕ) (p : PNum) (rows : List HandleRow) → cleared_for p (map (cleared_on xs) rows) ≡ map (cleared_on (xs ++ p.0 ∷ [])) rows
cleared-next xs p [] = refl
cleared-next xs p (r ∷ rows) = ap (λ z. z ∷ cleared_for p (map (cleared_on xs) rows)) (one-more xs p r) ∙ ap (λ l. cleared_on (xs ++ p.0 ∷ []) r ∷ l) (cleared-next xs p rows)

pub cleared-none : (rows : List HandleRow) → map (cleared_on []) rows ≡ rows
cleared-none [] = refl
cleared-none (r ∷ rows) = ap (λ l. r ∷ l) (cleared-none rows)

-- what is weak stays weak
pub weak-cleared : (xs : List ℕ) (p : PNum) (rows : List HandleRow) → All (IsWeakFor p) rows → All (IsWeakFor p) (map (cleared_on xs) rows)
weak-cleared xs p [] all = all
weak-cleared xs p (r ∷ rows) all = All-cons (IsWeakFor p) (cleared_on xs r) (map (cleared_on xs) rows) (by (list_any (nat_eq r.peer.0) xs) refl (first all)) (weak-cleared xs p rows (rest all))
  where
    first : All (IsWeakFor p) (r ∷ rows) → IsWeakFor p r
    first a = a 0 r (omega arith)

    rest : All (IsWeakFor p) (r ∷ rows) → All (IsWeakFor p) rows
    rest a = λ k d l. a (suc k) d (omega (arith, l))

    by : (b : Bool) → list_any (nat_eq r.peer.0) xs ≡ b → IsWeakFor p r → IsWeakFor p (cleared_on xs r)
    by true e w = subst (IsWeakFor p) (sym (on-true xs r e)) w
    by false e w = subst (IsWeakFor p) (sym (on-false xs r e)) w

-- each number shows the row as the definition clears it
abbrev cleared_seen : List ℕ → Issued → Option TableRow → Option TableRow
cleared_seen xs i None = None
cleared_seen xs i (Some row) = Some (record row { cleared = row.cleared || list_any (nat_eq i.peer) xs })

row_in-mapped : (xs : List ℕ) (rows : List HandleRow) (h : HNum) → row_in (map (cleared_on xs) rows) h ≡ option_map (cleared_on xs) (row_in rows h)
row_in-mapped xs [] h = refl
row_in-mapped xs (r ∷ rows) h = ap (λ n. if eqb h.0 n then Some (cleared_on xs r) else row_in (map (cleared_on xs) rows) h) (number (list_any (nat_eq r.peer.0) xs))
    ∙ (ap (λ o. if eqb h.0 r.number.0 then Some (cleared_on xs r) else o) (row_in-mapped xs rows h) ∙ out (eqb h.0 r.number.0))
  where
    number : (b : Bool) → (if b then cleared_row r else r).number.0 ≡ r.number.0
    number true = refl
    number false = refl

    out : (b : Bool) → (if b then Some (cleared_on xs r) else option_map (cleared_on xs) (row_in rows h)) ≡ option_map (cleared_on xs) (if b then Some r else row_in rows h)
    out true = refl
    out false = refl

seen-cleared : (xs : List ℕ) (o : Option HandleRow) (i : Issued) → ((r : HandleRow) → o ≡ Some r → i.peer ≡ r.peer.0)
    → option_map row_as (option_map (cleared_on xs) o) ≡ cleared_seen xs i (option_map row_as o)
seen-cleared xs None i same = refl
seen-cleared xs (Some r) i same = by (list_any (nat_eq r.peer.0) xs) refl ∙ ap (λ n. cleared_seen xs (record i { peer = n }) (Some (row_as r))) (sym (same r refl))
  where
    shown : Bool → TableRow
    shown b = record (row_as r) { cleared = r.cleared || b }

    or-true : (b : Bool) → (b || true) ≡ true
    or-true true = refl
    or-true false = refl

    or-false : (b : Bool) → (b || false) ≡ b
    or-false true = refl
    or-false false = refl

    by : (b : Bool) → list_any (nat_eq r.peer.0) xs ≡ b → Some (row_as (cleared_on xs r)) ≡ Some (record (row_as r) { cleared = r.cleared || list_any (nat_eq r.peer.0) xs })
    by true e = ap (λ (q : HandleRow). Some (row_as q)) (on-true xs r e) ∙ ap (λ (b : Bool). Some (record (row_as r) { cleared = b })) (sym (ap (λ b. r.cleared || b) e ∙ or-true r.cleared))
    by false e = ap (λ (q : HandleRow). Some (row_as q)) (on-false xs r e) ∙ ap (λ (b : Bool). Some (record (row_as r) { cleared = b })) (sym (ap (λ b. r.cleared || b) e ∙ or-false r.cleared))

cleared_rows-push : (xs : List ℕ) (is : List Issued) (rows : List (Option TableRow)) (i : Issued) (o : Option TableRow)
    → length rows ≡ length is → cleared_rows xs (is ++ i ∷ []) (rows ++ o ∷ []) ≡ cleared_rows xs is rows ++ cleared_seen xs i o ∷ []
cleared_rows-push xs [] [] i None len = refl
cleared_rows-push xs [] [] i (Some row) len = refl
cleared_rows-push xs [] (r ∷ rows) i o len = absurd (omega (arith, len))
cleared_rows-push xs (j ∷ is) [] i o len = absurd (omega (arith, len))
cleared_rows-push xs (j ∷ is) (None ∷ rows) i o len = ap (λ l. None ∷ l) (cleared_rows-push xs is rows i o (omega (arith, len)))
cleared_rows-push xs (j ∷ is) (Some row ∷ rows) i o len = ap (λ l. cleared_seen xs j (Some row) ∷ l) (cleared_rows-push xs is rows i o (omega (arith, len)))

pub table-cleared : (xs : List ℕ) (rows : List HandleRow) (issued : List Issue) (n : ℕ) → n ≤ length issued → AreRowsIssued rows issued
    → table_to (map (cleared_on xs) rows) n ≡ cleared_rows xs (map issued_as (take n issued)) (table_to rows n)
table-cleared xs rows issued zero le own = none (take 0 issued)
  where
    none : (l : List Issue) → [] ≡ cleared_rows xs (map issued_as l) []
    none [] = refl
    none (i ∷ l) = refl
table-cleared xs rows issued (suc n) le own =
    let at = numbered-made issued (suc n) (omega arith) le in
    let next : suc n ≡ n + 1 = omega arith in
    let more : map issued_as (take (suc n) issued) ≡ map issued_as (take n issued) ++ issued_as at.0 ∷ [] = ap (map issued_as) (ap (λ k. take k issued) next ∙ take-next issued n at.0 at.1)
    ∙ map-append issued_as (take n issued) (at.0 ∷ []) in
    let before = table-cleared xs rows issued n (omega (arith, le)) own in
    let same : (r : HandleRow) → row_in rows record { 0 = suc n } ≡ Some r
    → at.0.peer.0 ≡ r.peer.0 = λ r e. (let w = own record { 0 = suc n } r e in ap (λ (i : Issue). i.peer.0) (same_Some at.0 w.0 (sym at.1 ∙ w.1)) ∙ ap (λ (q : PNum). q.0) w.2) in
    let last : seen_in (map (cleared_on xs) rows) (suc n) ≡ cleared_seen xs (issued_as at.0) (seen_in rows (suc n)) = ap (option_map row_as) (row_in-mapped xs rows record { 0 = suc n })
    ∙ seen-cleared xs (row_in rows record { 0 = suc n }) (issued_as at.0) same in
    let len : length (table_to rows n) ≡ length (map issued_as (take n issued)) = table_to-count rows n ∙ (sym (taken issued n (omega (arith, le))) ∙ sym (length-map (take n issued) issued_as)) in
    ap (λ t. t ++ seen_in (map (cleared_on xs) rows) (suc n) ∷ []) before
    ∙ (ap (λ z. cleared_rows xs (map issued_as (take n issued)) (table_to rows n) ++ z ∷ []) last
    ∙ (sym (cleared_rows-push xs (map issued_as (take n issued)) (table_to rows n) (issued_as at.0) (seen_in rows (suc n)) len)
    ∙ ap (λ l. cleared_rows xs l (table_to rows (suc n))) (sym more)))
  where
    taken : (l : List Issue) (k : ℕ) → k ≤ length l → length (take k l) ≡ k
    taken [] zero w = refl
    taken [] (suc k) w = absurd (omega (arith, w))
    taken (y ∷ l) zero w = refl
    taken (y ∷ l) (suc k) w = ap suc (taken l k (omega (arith, w)))

-- each row still has the peer of its handle
pub issued-cleared : (xs : List ℕ) (rows : List HandleRow) (issued : List Issue) → AreRowsIssued rows issued → AreRowsIssued (map (cleared_on xs) rows) issued
issued-cleared xs rows issued own h r at = by (row_in rows h) refl
  where
    by : (o : Option HandleRow) → row_in rows h ≡ o → (i : Issue) × (numbered_at issued h.0 ≡ Some i) × (i.peer ≡ r.peer)
    by None e = absurd (none-some r (sym (ap (option_map (cleared_on xs)) e) ∙ (sym (row_in-mapped xs rows h) ∙ at)))
    by (Some q) e =
        let w = own h q e in
        let same : cleared_on xs q ≡ r = same_Some (cleared_on xs q) r (sym (ap (option_map (cleared_on xs)) e) ∙ (sym (row_in-mapped xs rows h) ∙ at)) in
        (w.0, w.1, w.2 ∙ (peer (list_any (nat_eq q.peer.0) xs) ∙ ap (λ (z : HandleRow). z.peer) same))
      where
        peer : (b : Bool) → q.peer ≡ (if b then cleared_row q else q).peer
        peer true = refl
        peer false = refl
