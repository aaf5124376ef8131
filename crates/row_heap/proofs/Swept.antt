-- A sweep over the rows: those without a mark are removed one after another. A row whose turn hasn't come is as it was,
-- so what the sweep looks at is what stood before it. A removed row had no mark, so the marks stay.
use Rattle.std.proofs.Common.{◌≡◌, ℕ, zero, suc, ◌+◌, ◌≤◌, ◌<◌, ◌⊎◌, ◌↔◌, inl, inr, Bool, true, false, not, ◌&&◌, List, [], ◌∷◌, ◌++◌, map, length, drop, Option, Some, if◌then◌else◌, refl, sym, ap}
use Rattle.std.proofs.Common.{subst, ◌∙◌, arith, append_assoc}
use Rattle.std.specs.Prelude.{Contains}
use Rattle.std.proofs.Math.Seq.{drop-append_seam}
use Rattle.std.proofs.lemmas.List.Elements.{Contains-push, Contains-push_cases, Contains-append_left}
use Rattle.std.proofs.lemmas.Bool.{cases_Bool}
use Rattle.joint_machine.specs.Heaps.{IsLive, InSlot, numbered_set}
use Rattle.joint_machine.proofs.Members.{All-members, Contains-nil, Rises-push}
use Rattle.heap_rules.specs.Flags.{IsSound, TakesDown, up_count}
use Rattle.heap_rules.specs.Tidy.{CanFree}
use Rattle.heap_rules.proofs.Sound.{TakesDown-push, up_count-down}
use Rattle.reachability.specs.Marks.{IsClosed, HasMark}
use Rattle.row_heap.specs.Ends.{Linked}
use Rattle.row_heap.specs.Marks.{AreWhite, EdgeOf}
use Rattle.row_heap.specs.Places.{Seen, row_at, gone, is_white}
use Rattle.row_heap.specs.Rows.{HeapRows, NoneRefers, RowsFreed, RowsSwept, heap_of, rows_of, stands_in}
use Rattle.row_heap.proofs.Freed.{RowsFreed-none, row_at-removed}
use Rattle.row_heap.proofs.Indexed.{stands-within}
use Rattle.row_heap.proofs.Sound.{flag-stands, map-kept, map-written, stands-flag}
use Rattle.row_heap.proofs.Walked.{live-seen, marked-row, row-marked, stands-seen}
use Rattle.reachability.proofs.Marking.{marked-or}

-- a white row stands and has no mark
pub white-stands : (r : Seen) → is_white r ≡ true → (r.stands ≡ true) × (r.marked ≡ false)
white-stands r e = both r.stands r.marked e
  where
    both : (s m : Bool) → (s && not m) ≡ true → (s ≡ true) × (m ≡ false)
    both true false e = (refl, refl)
    both true true e = (let f : ⊥ = cc in absurd f)
    both false m e = (let f : ⊥ = cc in absurd f)

pub stands-white : (r : Seen) → r.stands ≡ true → (r.marked ≡ true → ⊥) → is_white r ≡ true
stands-white r e n = both r.stands r.marked e n
  where
    both : (s m : Bool) → s ≡ true → (m ≡ true → ⊥) → (s && not m) ≡ true
    both true false e n = refl
    both true true e n = absurd (n refl)
    both false m e n = (let f : ⊥ = cc in absurd f)

-- a row that no step has removed is as white as it was
white-fallen : (r : Seen) → r.stands ≡ false → is_white r ≡ false
white-fallen r e = ap (λ s. s && not r.marked) e

pub white-same : (xs : List ℕ) (old mid : List Seen) (x : ℕ) → RowsFreed xs old mid → (Contains xs x → ⊥) → is_white (row_at mid x) ≡ is_white (row_at old x)
white-same xs old mid x r out = elim (cases_Bool (row_at mid x).stands) [
  | inl t ↦ ap is_white (r.others x t)
  | inr n ↦ white-fallen (row_at mid x) n ∙ sym (elim (cases_Bool (row_at old x).stands) [
    | inl t ↦ (let f : true ≡ false = sym (flag-stands mid x true (r.flags.other x out ∙ stands-flag old x t)) ∙ n in cc)
    | inr m ↦ white-fallen (row_at old x) m
  ])
]

-- the row that is removed is one of those that stand
pub up-row : (rows : List Seen) (x : ℕ) → (row_at rows x).stands ≡ true → 1 ≤ up_count (stands_in rows)
up-row rows zero e = (let f : ⊥ = cc in absurd f)
up-row rows (suc i) e = omega (arith, up_count-down (stands_in rows) i (stands-flag rows (suc i) e))

-- one more row is removed
RowsFreed-push : (xs : List ℕ) (x : ℕ) (old mid : List Seen) → RowsFreed xs old mid → (row_at old x).stands ≡ true
    → (Contains xs x → ⊥) → RowsFreed (xs ++ x ∷ []) old (numbered_set mid x (gone (row_at mid x).fields))
RowsFreed-push xs x old mid r up out = record {
  flags = subst (TakesDown (xs ++ x ∷ []) (stands_in old)) (sym (map-written (λ (q : Seen). q.stands) mid x (gone (row_at mid x).fields)))
      (TakesDown-push xs x (stands_in old) (stands_in mid) r.flags (stands-flag old x up) out);
  fields = map-kept (λ (q : Seen). q.fields) mid x (gone (row_at mid x).fields) refl ∙ r.fields;
  others = λ z s. (let same = row_at-removed mid x (row_at mid x).fields z s in same ∙ r.others z (sym (ap (λ (q : Seen). q.stands) same) ∙ s));
}

-- no row was looked at, and none of the first ones is white
pub RowsSwept-none : (n : ℕ) (rows : List Seen) (before after : List ℕ) → ((x : ℕ) → x ≤ n → is_white (row_at rows x) ≡ true → ⊥) → after ≡ before → RowsSwept n rows rows before after
RowsSwept-none n rows before after none e = record {
  swept = [];
  rises = tt;
  exact = λ x. ((λ c. absurd (Contains-nil x c)), (λ w. absurd (none x w.0 w.1)));
  rows = RowsFreed-none rows;
  marks = refl;
  freed = e ∙ sym (append-nil before);
}
  where
    append-nil : (l : List ℕ) → l ++ [] ≡ l
    append-nil [] = refl
    append-nil (y ∷ l) = ap (λ z. y ∷ z) (append-nil l)

-- the row whose turn comes
pub RowsSwept-here : (i : ℕ) (old mid : List Seen) (before mids : List ℕ) (x : ℕ) → RowsSwept i old mid before mids → x ≡ i + 1 → is_white (row_at mid x) ≡ is_white (row_at old x)
RowsSwept-here i old mid before mids x s e = white-same s.swept old mid x s.rows (λ c. omega (arith, ((s.exact x).0 c).0, e))

pub RowsSwept-next : (i : ℕ) (old mid new : List Seen) (before mids after : List ℕ) (x : ℕ) → RowsSwept i old mid before mids
    → x ≡ i + 1 → new ≡ (if is_white (row_at mid x) then numbered_set mid x (gone (row_at mid x).fields) else mid)
    → after ≡ (if is_white (row_at mid x) then mids ++ x ∷ [] else mids) → RowsSwept (i + 1) old new before after
RowsSwept-next i old mid new before mids after x s e is list =
    let here = RowsSwept-here i old mid before mids x s e in
    elim (cases_Bool (is_white (row_at mid x))) [
      | inl w ↦ subst (λ n. RowsSwept (i + 1) old n before after) (sym (is ∙ ap (λ (b : Bool). if b then numbered_set mid x (gone (row_at mid x).fields) else mid) w)) (
          let white = sym here ∙ w in
          let out : Contains s.swept x → ⊥ = λ c. omega (arith, ((s.exact x).0 c).0, e) in
          record {
            swept = s.swept ++ x ∷ [];
            rises = Rises-push s.swept x s.rises (All-members (λ y. y < x) s.swept (λ y c. omega (arith, ((s.exact y).0 c).0, e)));
            exact = λ y. (
              (λ c. elim (Contains-push_cases s.swept x y c) [
                | inl k ↦ (omega (arith, ((s.exact y).0 k).0), ((s.exact y).0 k).1)
                | inr k ↦ (omega (arith, k, e), subst (λ z. is_white (row_at old z) ≡ true) k white)
              ]),
              (λ k. elim (last-or i y k.0) [
                | inl l ↦ Contains-append_left s.swept (x ∷ []) y ((s.exact y).1 (l, k.1))
                | inr l ↦ subst (Contains (s.swept ++ x ∷ [])) (let q : x ≡ y = omega (arith, l, e) in q) (Contains-push s.swept x)
              ]),
            );
            rows = RowsFreed-push s.swept x old mid s.rows (white-stands (row_at old x) white).0 out;
            marks = map-kept (λ (r : Seen). r.marked) mid x (gone (row_at mid x).fields) (sym (white-stands (row_at mid x) w).1) ∙ s.marks;
            freed = list ∙ (ap (λ (b : Bool). if b then mids ++ x ∷ [] else mids) w ∙ (ap (λ l. l ++ x ∷ []) s.freed ∙ append_assoc before s.swept (x ∷ [])));
          })
      | inr w ↦ subst (λ n. RowsSwept (i + 1) old n before after) (sym (is ∙ ap (λ (b : Bool). if b then numbered_set mid x (gone (row_at mid x).fields) else mid) w)) record {
        swept = s.swept;
        rises = s.rises;
        exact = λ y. (
          (λ c. (omega (arith, ((s.exact y).0 c).0), ((s.exact y).0 c).1)),
          (λ k. elim (last-or i y k.0) [
            | inl l ↦ (s.exact y).1 (l, k.1)
            | inr l ↦ (let f : true ≡ false = sym k.1 ∙ (ap (λ z. is_white (row_at old z)) (let q : y ≡ x = omega (arith, l, e) in q) ∙ (sym here ∙ w)) in cc)
          ]),
        );
        rows = s.rows;
        marks = s.marks;
        freed = list ∙ (ap (λ (b : Bool). if b then mids ++ x ∷ [] else mids) w ∙ s.freed);
      }
    ]
  where
    last-or : (i y : ℕ) → y ≤ i + 1 → (y ≤ i) ⊎ (y ≡ i + 1)
    last-or i y l = elim (cases i y) [ inl w ↦ inl w | inr w ↦ inr (omega (arith, l, w)) ]
      where
        cases : (i y : ℕ) → (y ≤ i) ⊎ (i < y)
        cases i zero = inl (omega arith)
        cases zero (suc y) = inr (omega arith)
        cases (suc i) (suc y) = elim (cases i y) [ inl w ↦ inl (omega (arith, w)) | inr w ↦ inr (omega (arith, w)) ]

-- the white rows are the live objects without a mark
pub white-seen : (rows : List Seen) (freed : List ℕ) (vars statics : List (Option ℕ)) (refs : Linked) (follows : Bool) (cap : ℕ) (v : HeapRows) (x : ℕ)
    → rows_of rows freed vars statics refs follows ≡ v → IsSound (heap_of rows freed vars statics) (stands_in rows) cap
    → ((x ≤ length rows) × (is_white (row_at rows x) ≡ true)) ↔ (IsLive v.heap x × (HasMark v.marks x → ⊥))
white-seen rows freed vars statics refs follows cap v x view s = (
  (λ w. (let t = white-stands (row_at rows x) w.1 in (
    live-seen rows freed vars statics refs follows cap v x view s t.0,
    λ m. (let f : true ≡ false = sym (marked-row rows x (subst (λ (k : HeapRows). HasMark k.marks x) (sym view) m)) ∙ t.1 in cc),
  ))),
  (λ w. (let t = stands-seen rows freed vars statics refs follows cap v x view s w.0 in (
    (stands-within rows x t).1,
    stands-white (row_at rows x) t (λ m. w.1 (subst (λ (k : HeapRows). HasMark k.marks x) view (row-marked rows x m))),
  ))),
)

pub AreWhite-swept : (old new : List Seen) (freed after : List ℕ) (vars statics : List (Option ℕ)) (refs : Linked) (follows : Bool) (cap : ℕ) (v : HeapRows)
    → rows_of old freed vars statics refs follows ≡ v → IsSound (heap_of old freed vars statics) (stands_in old) cap
    → (s : RowsSwept (length old) old new freed after) → AreWhite v s.swept
AreWhite-swept old new freed after vars statics refs follows cap v view sound s = record {
  rises = s.rises;
  exact = λ x. (let w = white-seen old freed vars statics refs follows cap v x view sound in (
    (λ c. w.0 ((s.exact x).0 c)),
    (λ k. (s.exact x).1 (w.1 k)),
  ));
}

-- the list is the end of the freed list
pub swept-end : (v : HeapRows) (freed after swept : List ℕ) → v.heap.freed ≡ freed → after ≡ freed ++ swept → drop (length v.heap.freed) after ≡ swept
swept-end v freed after swept e is = ap (λ l. drop (length l) after) e ∙ (ap (drop (length freed)) is ∙ drop-append_seam freed swept)

-- after a marking that came to its end the objects without a mark may be freed
pub white-can_free : (v : HeapRows) (xs : List ℕ) → AreWhite v xs → ((x : ℕ) → InSlot v.heap x → HasMark v.marks x) → IsClosed (EdgeOf v) v.marks → CanFree v.heap xs
white-can_free v xs w slots shut = record {
  live = All-members (IsLive v.heap) xs (λ x c. ((w.exact x).0 c).0);
  rises = w.rises;
  unnamed = λ x c n. ((w.exact x).0 c).1 (slots x n);
  unheld = λ x y lx stays c held. elim (marked-or v.marks x) [
    | inl u ↦ ((w.exact y).0 c).1 (shut x y (inl record { live = lx; field = held; there = ((w.exact y).0 c).0 }) u)
    | inr n ↦ stays ((w.exact x).1 (lx, n))
  ];
}

pub white-none_refers : (v : HeapRows) (xs : List ℕ) → AreWhite v xs → IsClosed (EdgeOf v) v.marks → NoneRefers v xs
white-none_refers v xs w shut follows p q reference live stays c = elim (marked-or v.marks p) [
  | inl u ↦ ((w.exact q).0 c).1 (shut p q (inr (follows, record { live = live; reference = reference; there = ((w.exact q).0 c).0 })) u)
  | inr n ↦ stays ((w.exact p).1 (live, n))
]

-- what is seen afterwards
pub seen-swept : (old new : List Seen) (freed after : List ℕ) (vars statics : List (Option ℕ)) (refs : Linked) (follows : Bool) (v : HeapRows)
    → rows_of old freed vars statics refs follows ≡ v → map (λ (r : Seen). r.marked) new ≡ map (λ (r : Seen). r.marked) old
    → rows_of new after vars statics refs follows ≡ record v { heap = heap_of new after vars statics; links = 0 ∷ map (λ (r : Seen). r.link) new }
seen-swept old new freed after vars statics refs follows v view marks =
    ap (λ (m : List Bool). record (rows_of new after vars statics refs follows) { marks = false ∷ m }) marks
    ∙ ap (λ (w : HeapRows). record w { heap = heap_of new after vars statics; links = 0 ∷ map (λ (r : Seen). r.link) new }) view

-- what marks `free` leaves
pub marks-freed : (old new : List Seen) (freed : List ℕ) (vars statics : List (Option ℕ)) (refs : Linked) (follows : Bool) (v : HeapRows) (xs : List ℕ)
    → rows_of old freed vars statics refs follows ≡ v → RowsFreed xs old new
    → ((x : ℕ) → (row_at old x).marked ≡ true → (row_at old x).stands ≡ true) → ((x : ℕ) → (row_at new x).marked ≡ true → (row_at new x).stands ≡ true)
    → (x : ℕ) → HasMark (false ∷ map (λ (r : Seen). r.marked) new) x ↔ (HasMark v.marks x × (Contains xs x → ⊥))
marks-freed old new freed vars statics refs follows v xs view r up upper x = (
  (λ m. (
      let mark = marked-row new x m in
      let stand = upper x mark in (
        subst (λ (w : HeapRows). HasMark w.marks x) view (row-marked old x (sym (ap (λ (q : Seen). q.marked) (r.others x stand)) ∙ mark)),
        λ c. (let f : Some true ≡ Some false = sym (stands-flag new x stand) ∙ r.flags.down x c in cc),
      ))),
  (λ w. (
      let mark = marked-row old x (subst (λ (k : HeapRows). HasMark k.marks x) (sym view) w.0) in
      let stand = flag-stands new x true (r.flags.other x w.1 ∙ stands-flag old x (up x mark)) in
      row-marked new x (ap (λ (q : Seen). q.marked) (r.others x stand) ∙ mark))),
)
