-- A heap of rows stays sound. The lemmas of `heap_rules` on a heap with flags are used as they are: its flags are which
-- rows stand. Slots and fields are written between rows that stand, so no row comes or goes, and no reference is
-- touched. A further row stands last, and no reference is its own.
use Rattle.std.proofs.Common.{◌≡◌, ℕ, zero, suc, ◌+◌, ◌≤◌, ◌<◌, ◌⊎◌, inl, inr, Bool, true, false, List, [], ◌∷◌, ◌++◌, map, length, replicate, Option, Some, None, get_or, set, refl, sym, ap, subst}
use Rattle.std.proofs.Common.{◌∙◌, arith, length-append}
use Rattle.std.specs.Prelude.{All, Contains, OnErr, OnOk, Result, Ok, Err, max}
use Rattle.std.specs.Option.{ForSome}
use Rattle.std.proofs.lemmas.Bool.{cases_lt}
use Rattle.std.proofs.lemmas.List.{get_or_default, length-map, map-append, map-set}
use Rattle.std.proofs.lemmas.List.Elements.{All-weaker, Contains-append_cases}
use Rattle.joint_machine.specs.Components.{End, node, temporary}
use Rattle.joint_machine.specs.PeerReplay.{LeadsOver, Refers}
use Rattle.joint_machine.specs.Heaps.{Heap, MOST, IsLive, fields_of, numbered_at, numbered_set, slot, with_field, with_object}
use Rattle.joint_machine.proofs.Members.{Contains-nil}
use Rattle.row_heap.proofs.Indexed.{stands-within}
use Rattle.joint_machine.proofs.Numbered.{numbered-push_old, numbered-push_new, numbered-past, numbered_set-length}
use Rattle.heap_rules.specs.Flags.{IsSound, up_count}
use Rattle.heap_rules.specs.Tidy.{IsTidy}
use Rattle.heap_rules.proofs.Numbered.{slot-read}
use Rattle.heap_rules.proofs.Sound.{IsSound-empty, IsSound-added, IsSound-field, IsUp-live}
use Rattle.reachability.specs.Marks.{HasMark}
use Rattle.row_heap.specs.Ends.{AreEnds, IsEnd, Linked, no_references}
use Rattle.row_heap.specs.Places.{Seen, row_at, gone}
use Rattle.row_heap.specs.Rows.{AreReferences, HeapRows, IsRowHeap, MayRefer, MayReferBoth, heap_of, rows_of, stands_in}

-- the flag of a row is whether it stands
pub flag-stands : (rows : List Seen) (x : ℕ) (b : Bool) → numbered_at (stands_in rows) x ≡ Some b → (row_at rows x).stands ≡ b
flag-stands rows zero b e = cc
flag-stands [] (suc i) b e = cc
flag-stands (r ∷ rows) (suc zero) b e = cc
flag-stands (r ∷ rows) (suc (suc i)) b e = flag-stands rows (suc i) b e

pub stands-flag : (rows : List Seen) (x : ℕ) → (row_at rows x).stands ≡ true → numbered_at (stands_in rows) x ≡ Some true
stands-flag rows zero e = (let f : ⊥ = cc in absurd f)
stands-flag [] (suc i) e = (let f : ⊥ = cc in absurd f)
stands-flag (r ∷ rows) (suc zero) e = ap (λ b. Some b) e
stands-flag (r ∷ rows) (suc (suc i)) e = stands-flag rows (suc i) e

-- so a row stands exactly where its object is live
pub live-stands : (rows : List Seen) (freed : List ℕ) (vars statics : List (Option ℕ)) (cap x : ℕ)
    → IsSound (heap_of rows freed vars statics) (stands_in rows) cap → IsLive (heap_of rows freed vars statics) x → (row_at rows x).stands ≡ true
live-stands rows freed vars statics cap x s l = flag-stands rows x true (IsUp-live (heap_of rows freed vars statics) (stands_in rows) x s.flags l)

pub stands-live : (rows : List Seen) (freed : List ℕ) (vars statics : List (Option ℕ)) (cap x : ℕ)
    → IsSound (heap_of rows freed vars statics) (stands_in rows) cap → (row_at rows x).stands ≡ true → IsLive (heap_of rows freed vars statics) x
stands-live rows freed vars statics cap x s e = s.flags.up x (stands-flag rows x e)

-- the fields of an object are those of its row
pub fields-at : (rows : List Seen) (x : ℕ) → elim (numbered_at (map (λ (r : Seen). r.fields) rows) x) [ None ↦ [] | Some fs ↦ fs ] ≡ (row_at rows x).fields
fields-at rows zero = refl
fields-at [] (suc i) = refl
fields-at (r ∷ rows) (suc zero) = refl
fields-at (r ∷ rows) (suc (suc i)) = fields-at rows (suc i)

pub fields-seen : (rows : List Seen) (freed : List ℕ) (vars statics : List (Option ℕ)) (refs : Linked) (follows : Bool) (v : HeapRows) (x : ℕ)
    → rows_of rows freed vars statics refs follows ≡ v → fields_of v.heap x ≡ (row_at rows x).fields
fields-seen rows freed vars statics refs follows v x e = ap (λ (w : HeapRows). fields_of w.heap x) (sym e) ∙ fields-at rows x

pub tidy-seen : (rows : List Seen) (freed : List ℕ) (vars statics : List (Option ℕ)) (refs : Linked) (follows : Bool) (v : HeapRows) (cap : ℕ)
    → rows_of rows freed vars statics refs follows ≡ v → IsSound (heap_of rows freed vars statics) (stands_in rows) cap → IsTidy v.heap
tidy-seen rows freed vars statics refs follows v cap e s = subst (λ (w : HeapRows). IsTidy w.heap) e s.tidy

-- what a write to one row leaves: a part of the row that stays is as it was everywhere
pub map-kept : {A : Type 0} (f : Seen → A) (rows : List Seen) (x : ℕ) (y : Seen) → f y ≡ f (row_at rows x) → map f (numbered_set rows x y) ≡ map f rows
map-kept f rows zero y e = refl
map-kept f [] (suc i) y e = refl
map-kept f (r ∷ rows) (suc zero) y e = ap (λ z. z ∷ map f rows) e
map-kept f (r ∷ rows) (suc (suc i)) y e = ap (λ z. f r ∷ z) (map-kept f rows (suc i) y e)

pub row_at-kept : {A : Type 0} (f : Seen → A) (rows : List Seen) (x : ℕ) (y : Seen) → f y ≡ f (row_at rows x) → (z : ℕ) → f (row_at (numbered_set rows x y) z) ≡ f (row_at rows z)
row_at-kept f rows zero y e z = refl
row_at-kept f [] (suc i) y e z = refl
row_at-kept f (r ∷ rows) (suc zero) y e zero = refl
row_at-kept f (r ∷ rows) (suc zero) y e (suc zero) = e
row_at-kept f (r ∷ rows) (suc zero) y e (suc (suc k)) = refl
row_at-kept f (r ∷ rows) (suc (suc i)) y e zero = refl
row_at-kept f (r ∷ rows) (suc (suc i)) y e (suc zero) = refl
row_at-kept f (r ∷ rows) (suc (suc i)) y e (suc (suc k)) = row_at-kept f rows (suc i) y e (suc k)

pub map-written : {A : Type 0} (f : Seen → A) (rows : List Seen) (x : ℕ) (y : Seen) → map f (numbered_set rows x y) ≡ numbered_set (map f rows) x (f y)
map-written f rows zero y = refl
map-written f rows (suc i) y = map-set f rows i y

-- what had a mark has one still, where the row that is written does
pub row_at-raised : (rows : List Seen) (x : ℕ) (y : Seen) → ((row_at rows x).marked ≡ true → y.marked ≡ true)
    → (z : ℕ) → (row_at rows z).marked ≡ true → (row_at (numbered_set rows x y) z).marked ≡ true
row_at-raised rows zero y e z m = m
row_at-raised [] (suc i) y e z m = m
row_at-raised (r ∷ rows) (suc zero) y e zero m = m
row_at-raised (r ∷ rows) (suc zero) y e (suc zero) m = e m
row_at-raised (r ∷ rows) (suc zero) y e (suc (suc k)) m = m
row_at-raised (r ∷ rows) (suc (suc i)) y e zero m = m
row_at-raised (r ∷ rows) (suc (suc i)) y e (suc zero) m = m
row_at-raised (r ∷ rows) (suc (suc i)) y e (suc (suc k)) m = row_at-raised rows (suc i) y e (suc k) m

-- what an object refers to, it refers to by a reference of its own
pub refers-from : (refs : List (End × End)) (p q : ℕ) → Refers refs p q → (f : End) × Contains refs (node p, f)
refers-from refs p q r = by r.through r.walk
  where
    by : (through : List ℕ) → LeadsOver refs (node p) through q → (f : End) × Contains refs (node p, f)
    by [] w = (node q, w)
    by (t ∷ ts) w = (temporary t, w.0)

-- references over rows that stand, and have marks, where they did
pub AreReferences-as : (rows others : List Seen) (refs : Linked) (follows : Bool) → length others ≡ length rows
    → ((z : ℕ) → (row_at others z).stands ≡ true → ((row_at rows z).stands ≡ true) × ((row_at rows z).marked ≡ true → (row_at others z).marked ≡ true))
    → (follows ≡ true → (p q : ℕ) → Refers refs.refs p q → (row_at others p).stands ≡ true → (row_at rows q).stands ≡ true → (row_at others q).stands ≡ true)
    → AreReferences rows refs follows → AreReferences others refs follows
AreReferences-as rows others refs follows len back on a = record {
  made = λ p f c. omega (arith, a.made p f c, len);
  ends = λ f p q c e. on f p q c e (a.ends f p q c (back p e).0);
  sights = λ f t through y h w e. (let b = back y e in b.1 (a.sights f t through y h w b.0));
}

-- one row is written, and stands as before, with a mark if it had one
pub AreReferences-written : (rows : List Seen) (refs : Linked) (follows : Bool) (x : ℕ) (y : Seen) → y.stands ≡ (row_at rows x).stands
    → ((row_at rows x).marked ≡ true → y.marked ≡ true) → AreReferences rows refs follows → AreReferences (numbered_set rows x y) refs follows
AreReferences-written rows refs follows x y up raised a = AreReferences-as rows (numbered_set rows x y) refs follows (numbered_set-length rows x y)
    (λ z e. (sym (row_at-kept (λ r. r.stands) rows x y up z) ∙ e, row_at-raised rows x y raised z))
    (λ f p q c e l. row_at-kept (λ r. r.stands) rows x y up q ∙ l) a

-- a field is written
pub heap-written : (rows : List Seen) (freed : List ℕ) (vars statics : List (Option ℕ)) (x i : ℕ) (o : Option ℕ)
    → heap_of (numbered_set rows x (record (row_at rows x) { fields = set (row_at rows x).fields i o })) freed vars statics ≡ with_field (heap_of rows freed vars statics) x i o
heap-written rows freed vars statics x i o =
    let y : Seen = record (row_at rows x) { fields = set (row_at rows x).fields i o } in
    ap (λ (fs : List (List (Option ℕ))). let h : Heap = record { fields = fs; freed = freed; vars = vars; statics = statics } in h)
    (map-written (λ r. r.fields) rows x y ∙ ap (λ (l : List (Option ℕ)). numbered_set (map (λ (r : Seen). r.fields) rows) x (set l i o)) (sym (fields-at rows x)))

-- other rows with another heap, and the marks and links as they were
pub seen-heap : (rows others : List Seen) (freed : List ℕ) (vars statics : List (Option ℕ)) (refs : Linked) (follows : Bool) (h : Heap) → heap_of others freed vars statics ≡ h
    → map (λ (r : Seen). r.marked) others ≡ map (λ (r : Seen). r.marked) rows → map (λ (r : Seen). r.link) others ≡ map (λ (r : Seen). r.link) rows
    → rows_of others freed vars statics refs follows ≡ record (rows_of rows freed vars statics refs follows) { heap = h }
seen-heap rows others freed vars statics refs follows h e m l =
    ap (λ (z : Heap). let v : HeapRows = record {
      heap = z;
      refs = refs.refs;
      follows = follows;
      room = refs.room;
      temps = refs.temps;
      marks = false ∷ map (λ (r : Seen). r.marked) others;
      links = 0 ∷ map (λ (r : Seen). r.link) others;
    } in v) e
    ∙ (ap (λ (z : List Bool). let v : HeapRows = record {
      heap = h;
      refs = refs.refs;
      follows = follows;
      room = refs.room;
      temps = refs.temps;
      marks = false ∷ z;
      links = 0 ∷ map (λ (r : Seen). r.link) others;
    } in v) m
    ∙ ap (λ (z : List ℕ). let v : HeapRows = record {
      heap = h;
      refs = refs.refs;
      follows = follows;
      room = refs.room;
      temps = refs.temps;
      marks = false ∷ map (λ (r : Seen). r.marked) rows;
      links = 0 ∷ z;
    } in v) l)

pub seen-written : (rows others : List Seen) (freed : List ℕ) (vars statics : List (Option ℕ)) (refs : Linked) (follows : Bool) (v : HeapRows) (x i : ℕ) (o : Option ℕ)
    → rows_of rows freed vars statics refs follows ≡ v
    → others ≡ numbered_set rows x (record (row_at rows x) { fields = set (row_at rows x).fields i o }) → rows_of others freed vars statics refs follows ≡ record v { heap = with_field v.heap x i o }
seen-written rows others freed vars statics refs follows v x i o view e =
    let y : Seen = record (row_at rows x) { fields = set (row_at rows x).fields i o } in
    ap (λ (l : List Seen). rows_of l freed vars statics refs follows) e
    ∙ (seen-heap rows (numbered_set rows x y) freed vars statics refs follows (with_field (heap_of rows freed vars statics) x i o)
    (heap-written rows freed vars statics x i o) (map-kept (λ r. r.marked) rows x y refl) (map-kept (λ r. r.link) rows x y refl)
    ∙ ap (λ (w : HeapRows). record w { heap = with_field w.heap x i o }) view)

pub IsRowHeap-written : (rows : List Seen) (freed : List ℕ) (vars statics : List (Option ℕ)) (refs : Linked) (follows : Bool) (c x i : ℕ) (o : Option ℕ)
    → IsRowHeap rows freed vars statics refs follows c
    → IsLive (heap_of rows freed vars statics) x → ForSome o (IsLive (heap_of rows freed vars statics))
    → IsRowHeap (numbered_set rows x (record (row_at rows x) { fields = set (row_at rows x).fields i o })) freed vars statics refs follows c
IsRowHeap-written rows freed vars statics refs follows c x i o s l p =
    let y : Seen = record (row_at rows x) { fields = set (row_at rows x).fields i o } in
    record {
      sound = subst (λ (h : Heap). IsSound h (stands_in (numbered_set rows x y)) c) (sym (heap-written rows freed vars statics x i o))
          (subst (λ (u : List Bool). IsSound (with_field (heap_of rows freed vars statics) x i o) u c) (sym (map-kept (λ r. r.stands) rows x y refl))
          (IsSound-field (heap_of rows freed vars statics) (stands_in rows) c x i o s.sound l p));
      references = AreReferences-written rows refs follows x y refl (λ m. m) s.references;
    }

-- no object
pub IsRowHeap-empty : (rows : List Seen) (freed : List ℕ) (vars statics : List (Option ℕ)) (refs : Linked) (c : ℕ) → rows ≡ [] → freed ≡ []
    → vars ≡ replicate 72 None → statics ≡ replicate 16 None → refs ≡ no_references → IsRowHeap rows freed vars statics refs false c
IsRowHeap-empty rows freed vars statics refs c r f v t e = record {
  sound = IsSound-empty (map (λ q. q.fields) rows) freed (stands_in rows) vars statics c (ap (map (λ q. q.fields)) r) f (ap stands_in r) v t;
  references = record {
    made = λ p g h. absurd (Contains-nil (node p, g) (subst (λ (l : Linked). Contains l.refs (node p, g)) e h));
    ends = λ b. (let z : ⊥ = cc in absurd z);
    sights = λ b. (let z : ⊥ = cc in absurd z);
  };
}

-- other references, and nothing else
pub IsRowHeap-other : (rows : List Seen) (freed : List ℕ) (vars statics : List (Option ℕ)) (refs new : Linked) (follows after : Bool) (c : ℕ)
    → IsRowHeap rows freed vars statics refs follows c → AreReferences rows new after → IsRowHeap rows freed vars statics new after c
IsRowHeap-other rows freed vars statics refs new follows after c s a = record { sound = s.sound; references = a }

-- more room
pub AreReferences-roomy : (rows : List Seen) (refs new : Linked) (follows : Bool) → new.refs ≡ refs.refs
    → ((k : ℕ) → HasMark new.seen k → HasMark refs.seen k) → AreReferences rows refs follows → AreReferences rows new follows
AreReferences-roomy rows refs new follows is seen a = record {
  made = λ p f h. a.made p f (subst (λ l. Contains l (node p, f)) is h);
  ends = λ f p q h e. a.ends f p q (subst (λ l. Refers l p q) is h) e;
  sights = λ f t through y h w e. a.sights f t through y (seen (suc t) h) (subst (λ l. LeadsOver l (temporary t) through y) is w) e;
}

pub seen-roomy : {T E : Type 0} (r : Result T E) (n t : ℕ) (rows : List Seen) (freed : List ℕ) (vars statics : List (Option ℕ)) (refs new : Linked) (follows : Bool) (v : HeapRows)
    → rows_of rows freed vars statics refs follows ≡ v → new.refs ≡ refs.refs → OnOk r (new.room ≡ n)
    → OnOk r (new.temps ≡ max refs.temps t) → OnOk r (rows_of rows freed vars statics new follows ≡ record v { room = n; temps = max v.temps t })
seen-roomy (Ok x) n t rows freed vars statics refs new follows v view is room temps =
    subst (λ (w : HeapRows). rows_of rows freed vars statics new follows ≡ record w { room = n; temps = max w.temps t }) view (rw (is, room, temps) refl)
seen-roomy (Err e) n t rows freed vars statics refs new follows v view is room temps = tt

pub seen-err : {T E : Type 0} (r : Result T E) (rows : List Seen) (freed : List ℕ) (vars statics : List (Option ℕ)) (refs new : Linked) (follows : Bool) (v : HeapRows)
    → rows_of rows freed vars statics refs follows ≡ v → OnErr r (new ≡ refs) → OnErr r (rows_of rows freed vars statics new follows ≡ v)
seen-err (Ok x) rows freed vars statics refs new follows v view is = tt
seen-err (Err e) rows freed vars statics refs new follows v view is = ap (λ (l : Linked). rows_of rows freed vars statics l follows) is ∙ view

-- none is left
pub AreReferences-none : (rows : List Seen) (refs : Linked) (follows : Bool) → refs.refs ≡ [] → AreReferences rows refs follows
AreReferences-none rows refs follows is = record {
  made = λ p f h. absurd (Contains-nil (node p, f) (subst (λ l. Contains l (node p, f)) is h));
  ends = λ f p q h e. (let w = refers-from refs.refs p q h in absurd (Contains-nil (node p, w.0) (subst (λ l. Contains l (node p, w.0)) is w.1)));
  sights = λ f t through y h w e. absurd (none through (temporary t) y (subst (λ l. LeadsOver l (temporary t) through y) is w));
}
  where
    none : (through : List ℕ) (e : End) (y : ℕ) → LeadsOver [] e through y → ⊥
    none [] e y w = Contains-nil (e, node y) w
    none (t ∷ ts) e y w = Contains-nil (e, temporary t) w.0

-- further ones, which nothing follows
pub AreReferences-added : (rows : List Seen) (refs new : Linked) (more : List (End × End)) (follows : Bool) → new.refs ≡ refs.refs ++ more
    → ((p : ℕ) (f : End) → Contains more (node p, f) → p ≤ length rows) → AreReferences rows refs follows → AreReferences rows new false
AreReferences-added rows refs new more follows is made a = record {
  made = λ p f h. elim (Contains-append_cases refs.refs more (node p, f) (subst (λ l. Contains l (node p, f)) is h)) [ inl w ↦ a.made p f w | inr w ↦ made p f w ];
  ends = λ b. (let z : ⊥ = cc in absurd z);
  sights = λ b. (let z : ⊥ = cc in absurd z);
}

-- the ends of further references
pub ends-refer : (v : HeapRows) (temps : ℕ) (l : List (End × End)) → length v.heap.fields ≤ 65535 → temps ≡ v.temps → All (MayReferBoth v) l → All (AreEnds temps) l
ends-refer v temps l most same a = All-weaker (MayReferBoth v) (AreEnds temps) (λ p w. (by p.0 w.0, by p.1 w.1)) l a
  where
    by : (e : End) → MayRefer v e → IsEnd temps e
    by (node x) w = omega (arith, w.made.1, most)
    by (temporary t) w = omega (arith, w, same)

-- a further row
pub row_at-push_old : (rows : List Seen) (n : Seen) (z : ℕ) → z ≤ length rows → row_at (rows ++ n ∷ []) z ≡ row_at rows z
row_at-push_old rows n z l = ap (λ o. elim o [ None ↦ gone [] | Some r ↦ r ]) (numbered-push_old rows n z l)

pub row_at-push_new : (rows : List Seen) (n : Seen) → row_at (rows ++ n ∷ []) (length rows + 1) ≡ n
row_at-push_new rows n = ap (λ o. elim o [ None ↦ gone [] | Some r ↦ r ]) (numbered-push_new rows n)

pub row_at-past : (rows : List Seen) (z : ℕ) → length rows < z → row_at rows z ≡ gone []
row_at-past rows z l = ap (λ o. elim o [ None ↦ gone [] | Some r ↦ r ]) (numbered-past rows z l)

stands-cases : (rows : List Seen) (n : Seen) (z : ℕ) → (row_at (rows ++ n ∷ []) z).stands ≡ true → ((z ≤ length rows) × ((row_at rows z).stands ≡ true)) ⊎ (z ≡ length rows + 1)
stands-cases rows n z e = elim (cases_lt (length rows) z) [
  | inr w ↦ inl (w, sym (ap (λ r. r.stands) (row_at-push_old rows n z w)) ∙ e)
  | inl w ↦ elim (cases_lt (length rows + 1) z) [
    | inr v ↦ inr (omega arith)
    | inl v ↦ (let f : false ≡ true = sym (ap (λ r. r.stands) (row_at-past (rows ++ n ∷ []) z (omega (arith, v, length-append rows (n ∷ []))))) ∙ e in (let g : ⊥ = cc in absurd g))
  ]
]

pub AreReferences-pushed : (rows : List Seen) (n : Seen) (refs : Linked) (follows : Bool) → n.marked ≡ true → AreReferences rows refs follows → AreReferences (rows ++ n ∷ []) refs follows
AreReferences-pushed rows n refs follows marked a =
    let old : (z : ℕ) → z ≤ length rows → row_at (rows ++ n ∷ []) z ≡ row_at rows z = row_at-push_old rows n in
    record {
      made = λ p f c. omega (arith, a.made p f c, length-append rows (n ∷ []));
      ends = λ f p q c e.
          let g = refers-from refs.refs p q c in
          let up = a.ends f p q c (sym (ap (λ r. r.stands) (old p (a.made p g.0 g.1))) ∙ e) in
          ap (λ r. r.stands) (old q (stands-within rows q up).1) ∙ up;
      sights = λ f t through y h w e. elim (stands-cases rows n y e) [
        | inl s ↦ ap (λ r. r.marked) (old y s.0) ∙ a.sights f t through y h w s.1
        | inr s ↦ ap (λ r. r.marked) (ap (row_at (rows ++ n ∷ [])) s ∙ row_at-push_new rows n) ∙ marked
      ];
    }

pub IsRowHeap-added : (rows others : List Seen) (freed after : List ℕ) (vars statics : List (Option ℕ)) (refs : Linked) (follows : Bool) (c e k : ℕ) (n : Seen)
    → IsRowHeap rows freed vars statics refs follows c
    → length rows < MOST → length rows + 1 ≤ e → others ≡ rows ++ n ∷ [] → n.fields ≡ replicate k None
    → n.stands ≡ true → n.marked ≡ true → after ≡ freed → IsRowHeap others after vars statics refs follows e
IsRowHeap-added rows others freed after vars statics refs follows c e k n s few space is fields up marked same =
    let h : Heap = heap_of rows freed vars statics in
    let len : length h.fields ≡ length rows = length-map rows (λ r. r.fields) in
    record {
      sound = IsSound-added h (stands_in rows) (stands_in others) c e k (map (λ r. r.fields) others) after s.sound (omega (arith, few, len)) (omega (arith, space, len))
          (ap (map (λ r. r.fields)) is ∙ (map-append (λ r. r.fields) rows (n ∷ []) ∙ ap (λ z. map (λ r. r.fields) rows ++ z ∷ []) fields)) same
          (ap stands_in is ∙ (map-append (λ r. r.stands) rows (n ∷ []) ∙ ap (λ z. stands_in rows ++ z ∷ []) up));
      references = subst (λ l. AreReferences l refs follows) (sym is) (AreReferences-pushed rows n refs follows marked s.references);
    }

pub seen-added : (rows others : List Seen) (freed after : List ℕ) (vars statics : List (Option ℕ)) (refs : Linked) (follows : Bool) (v : HeapRows) (k : ℕ) (fs : List (Option ℕ))
    → rows_of rows freed vars statics refs follows ≡ v
    → others ≡ rows ++ record { fields = fs; marked = true; link = 0; stands = true } ∷ [] → fs ≡ replicate k None → after ≡ freed
    → rows_of others after vars statics refs follows ≡ record v { heap = with_object v.heap k; marks = v.marks ++ true ∷ []; links = v.links ++ 0 ∷ [] }
seen-added rows others freed after vars statics refs follows v k fs view is fields same =
    subst (λ (w : HeapRows). rows_of others after vars statics refs follows ≡ record w { heap = with_object w.heap k; marks = w.marks ++ true ∷ []; links = w.links ++ 0 ∷ [] }) view
    (rw (is, fields, same) (simp map-append))

-- how many rows there are, and how many of them stand
pub made-seen : (rows : List Seen) (freed : List ℕ) (vars statics : List (Option ℕ)) (refs : Linked) (follows : Bool) (v : HeapRows)
    → rows_of rows freed vars statics refs follows ≡ v → length v.heap.fields ≡ length rows
made-seen rows freed vars statics refs follows v view = ap (λ (w : HeapRows). length w.heap.fields) (sym view) ∙ length-map rows (λ r. r.fields)

pub rows-most : (rows : List Seen) (freed : List ℕ) (vars statics : List (Option ℕ)) (cap : ℕ) → IsSound (heap_of rows freed vars statics) (stands_in rows) cap → length rows ≤ MOST
rows-most rows freed vars statics cap s = omega (arith, s.tidy.most, length-map rows (λ r. r.fields))

pub stand-count : {A : Type 0} (f : A → ℕ) (rows : List Seen) (freed : List A) (vars statics : List (Option ℕ)) (cap : ℕ)
    → IsSound (heap_of rows (map f freed) vars statics) (stands_in rows) cap → length freed + up_count (stands_in rows) ≡ length rows
stand-count f rows freed vars statics cap s = omega (arith, s.flags.count, length-map rows (λ r. r.fields), length-map freed f)

pub stand-room : {A : Type 0} (f : A → ℕ) (rows : List Seen) (freed : List A) (vars statics : List (Option ℕ)) (cap : ℕ)
    → IsSound (heap_of rows (map f freed) vars statics) (stands_in rows) cap → length freed + up_count (stands_in rows) ≤ cap
stand-room f rows freed vars statics cap s = omega (arith, s.flags.count, s.room, length-map freed f)

-- what is read at a slot
pub slot-here : (os : List (Option ℕ)) (i : ℕ) → i < length os → slot os i ≡ get_or os i None
slot-here os i within = slot-read os i (get_or os i None) within (get_or_default os i None (get_or os i None) within)

-- what is seen of a heap whose rows alone changed
pub rest-freed : (rows others : List Seen) (freed after : List ℕ) (vars statics : List (Option ℕ)) (refs : Linked) (follows : Bool) (v : HeapRows) → rows_of rows freed vars statics refs follows ≡ v
    → rows_of others after vars statics refs follows ≡ record v
    { heap = heap_of others after vars statics; marks = false ∷ map (λ (r : Seen). r.marked) others; links = 0 ∷ map (λ (r : Seen). r.link) others }
rest-freed rows others freed after vars statics refs follows v view = ap
    (λ (w : HeapRows). record w { heap = heap_of others after vars statics; marks = false ∷ map (λ (r : Seen). r.marked) others; links = 0 ∷ map (λ (r : Seen). r.link) others }) view
