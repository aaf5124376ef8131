-- How many fields live rows have: rising ones are among all rows, so together they have at most the fields of all. A
-- part of a list has at most the fields of the whole.
use Rattle.std.proofs.Common.{◌≡◌, ℕ, zero, suc, ◌+◌, ◌<◌, ◌≤◌, inl, inr, List, [], ◌∷◌, ◌++◌, Option, None, drop, length, map, take, ap, ◌∙◌, arith}
use Rattle.std.specs.Prelude.{All, Contains, slice_get, Some, sum}
use Rattle.std.proofs.lemmas.Bool.{cases_lt}
use Rattle.std.proofs.lemmas.List.{length-map}
use Rattle.std.proofs.lemmas.List.Elements.{All-cons, All-head, All-weaker}
use Rattle.std.proofs.lemmas.List.Sums.{sum_by-cons}
use Rattle.joint_machine.specs.declared.names.MNum.{MNum}
use Rattle.joint_machine.specs.Components.{Rises}
use Rattle.joint_machine.specs.Heaps.{Heap, IsLive, fields_of}
use Rattle.joint_machine.specs.Histories.{managed_numbers}
use Rattle.joint_machine.proofs.Members.{All-members, Contains-here, Contains-there, take-next}
use Rattle.row_heap.specs.Marks.{AreWhite}
use Rattle.row_heap.specs.Rows.{HeapRows}
use Rattle.managed_heap.specs.Rooms.{fields_in}
use Rattle.managed_heap.proofs.Resolutions.{rows-few}

-- how many fields the rows behind the first ones have together
abbrev pub fields_after : List (List (Option ℕ)) → ℕ → ℕ
fields_after rows k = sum (map length (drop k rows))

-- the next of them, and those behind it
after-next : (rows : List (List (Option ℕ))) (k : ℕ) → k < length rows → fields_after rows k ≡ length {A = Option ℕ} (elim (slice_get rows k) [ None ↦ [] | Some fs ↦ fs ]) + fields_after rows (suc k)
after-next [] k within = absurd (omega (arith, within))
after-next (fs ∷ rows) zero within = sum_by-cons (λ n. n) (length fs) (map length rows)
after-next (fs ∷ rows) (suc k) within = after-next rows k (omega (arith, within))

-- rising live rows behind the first ones have at most these
fields-after : (h : Heap) (d k : ℕ) (xs : List ℕ) → length h.fields ≤ k + d → Rises xs → All (λ y. k < y) xs → ((m : ℕ) → Contains xs m → IsLive h m) → fields_in h xs ≤ fields_after h.fields k
fields-after h d k [] end r a l = omega (arith)
fields-after h zero k (x ∷ xs) end r a l = absurd (omega (arith, (l x (Contains-here x xs)).made.1, All-head (λ y. k < y) x xs a, end))
fields-after h (suc d) k (x ∷ xs) end r a l =
    let here = l x (Contains-here x xs) in
    let high : k < x = All-head (λ y. k < y) x xs a in
    let next = after-next h.fields k (omega (arith, here.made.1, high)) in
    let end' : length h.fields ≤ suc k + d = omega (arith, end) in
    elim (cases_lt (suc k) x) [
      | inl above ↦ (let b = fields-after h d (suc k) (x ∷ xs) end' r (All-cons (λ y. suc k < y) x xs above (All-weaker (λ y. x < y) (λ y. suc k < y) (λ y h. omega (arith, h, above)) xs r.0)) l in
          omega (arith, b, next))
      | inr low ↦ (
          let same : x ≡ suc k = omega (arith, high, low) in
          let first : length (fields_of h x) ≡ length (fields_of h (suc k)) = ap (λ y. length (fields_of h y)) same in
          let rest = fields-after h d (suc k) xs end' r.1 (All-weaker (λ y. x < y) (λ y. suc k < y) (λ y h. omega (arith, h, same)) xs r.0) (λ m c. l m (Contains-there m x xs c)) in
          omega (arith, first, rest, next))
    ]

-- rising live rows have together at most the fields of all rows
pub fields-fit : (h : Heap) (xs : List ℕ) → Rises xs → ((m : ℕ) → Contains xs m → IsLive h m) → fields_in h xs ≤ sum (map length h.fields)
fields-fit h xs r l = fields-after h (length h.fields) 0 xs (omega arith) r (All-members (λ y. 0 < y) xs (λ m c. (l m c).made.0)) l

fields-push : (h : Heap) (xs : List ℕ) (x : ℕ) → fields_in h (xs ++ x ∷ []) ≡ fields_in h xs + length (fields_of h x)
fields-push h [] x = omega (arith)
fields-push h (y ∷ xs) x = (let e = fields-push h xs x in omega (arith, e))

-- the fields of one row more
pub fields-next : (h : Heap) (xs : List ℕ) (i x : ℕ) → slice_get xs i ≡ Some x → fields_in h (take (i + 1) xs) ≡ fields_in h (take i xs) + length (fields_of h x)
fields-next h xs i x e = ap (fields_in h) (take-next xs i x e) ∙ fields-push h (take i xs) x

pub fields-take : (h : Heap) (xs : List ℕ) (i : ℕ) → fields_in h (take i xs) ≤ fields_in h xs
fields-take h xs zero = omega (arith)
fields-take h [] (suc i) = omega (arith)
fields-take h (x ∷ xs) (suc i) = (let e = fields-take h xs i in omega (arith, e))

-- there are at most as many white rows as were made
pub white-few : (v : HeapRows) (ms : List MNum) → AreWhite v (managed_numbers ms) → length ms ≤ length v.heap.fields
white-few v ms w =
    let few = rows-few v.heap (managed_numbers ms) w.rises (λ x c. ((w.exact x).0 c).0) in
    omega (arith, few, length-map ms (λ (m : MNum). m.0))
