-- The edges of the heap, and those that the marking loop walks. Between live objects they are the same; from a freed
-- one the loop's lead on, but no freed object has a mark, and no walk from a live one comes to one. So a marking over
-- the one kind of edges is one over the other.
use Rattle.std.proofs.Common.{◌≡◌, ℕ, zero, ◌≤◌, suc, inl, inr, Bool, true, false, List, [], ◌∷◌, map, length, Option, refl, sym, ap, subst, ◌∙◌, arith}
use Rattle.std.specs.Prelude.{Contains, IsTrue}
use Rattle.std.proofs.lemmas.List.{length-map}
use Rattle.joint_machine.specs.Components.{node}
use Rattle.joint_machine.specs.PeerReplay.{Refers}
use Rattle.joint_machine.specs.Heaps.{Heap, IsLive}
use Rattle.joint_machine.specs.Walks.{Reached}
use Rattle.joint_machine.proofs.WalkLemmas.{Reached-keeps, Reached-start, Reached-then, Reached-mono}
use Rattle.heap_rules.specs.Tidy.{IsTidy}
use Rattle.reachability.specs.Marks.{IsClosed, HasMark}
use Rattle.reachability.specs.Scans.{Scans}
use Rattle.row_marking.specs.Traces.{Blackened, Blackens, Greying}
use Rattle.heap_rules.specs.Flags.{IsSound}
use Rattle.row_heap.specs.Places.{Seen, row_at, unmarked_row}
use Rattle.row_heap.specs.Ends.{Linked}
use Rattle.row_heap.specs.Rows.{HeapRows, IsRowHeap, heap_of, rows_of, stands_in}
use Rattle.row_heap.specs.Marks.{AreEndsLive, EdgeOf, LeadsTo, unmarked_rows}
use Rattle.row_heap.proofs.Walked.{live-seen, marked-row, stands-seen}

pub leads-edge : (v : HeapRows) (x y : ℕ) → IsTidy v.heap → (IsTrue v.follows → AreEndsLive v) → IsLive v.heap x → LeadsTo v x y → EdgeOf v x y
leads-edge v x y tidy ends l e = elim e [
  | inl f ↦ inl record { live = l; field = f; there = tidy.held x y l f }
  | inr r ↦ inr (r.0, record { live = l; reference = r.1; there = ends r.0 x y r.1 l })
]

pub edge-leads : (v : HeapRows) (x y : ℕ) → EdgeOf v x y → LeadsTo v x y
edge-leads v x y e = elim e [ inl f ↦ inl f.field | inr r ↦ inr (r.0, r.1.reference) ]

-- a walk of the loop's edges from live objects
pub reached-edge : (v : HeapRows) (roots : List ℕ) (k : ℕ) → IsTidy v.heap → (IsTrue v.follows → AreEndsLive v)
    → ((x : ℕ) → Contains roots x → IsLive v.heap x) → Reached (Contains roots) (LeadsTo v) k → Reached (Contains roots) (EdgeOf v) k
reached-edge v roots k tidy ends live r = (Reached-keeps (Contains roots) (LeadsTo v) (λ x. IsLive v.heap x × Reached (Contains roots) (EdgeOf v) x)
    (λ x c. (live x c, Reached-start (Contains roots) (EdgeOf v) x c))
    (λ x y e w. (let d = leads-edge v x y tidy ends w.0 e in (edge-live v x y d, Reached-then (Contains roots) (EdgeOf v) x y w.1 d))) k r).1
  where
    edge-live : (v : HeapRows) (x y : ℕ) → EdgeOf v x y → IsLive v.heap y
    edge-live v x y e = elim e [ inl f ↦ f.there | inr r ↦ r.1.there ]

pub reached-leads : (v : HeapRows) (roots : List ℕ) (k : ℕ) → Reached (Contains roots) (EdgeOf v) k → Reached (Contains roots) (LeadsTo v) k
reached-leads v roots k r = Reached-mono (Contains roots) (Contains roots) (EdgeOf v) (LeadsTo v) (λ x c. c) (edge-leads v) k r

-- marks that are shut under the one kind are so under the other
pub shut-leads : (v : HeapRows) (marks : List Bool) → IsTidy v.heap → (IsTrue v.follows → AreEndsLive v)
    → ((x : ℕ) → HasMark marks x → IsLive v.heap x) → IsClosed (EdgeOf v) marks → IsClosed (LeadsTo v) marks
shut-leads v marks tidy ends live shut x y e m = shut x y (leads-edge v x y tidy ends (live x m) e) m

pub shut-edges : (v : HeapRows) (marks : List Bool) → IsClosed (LeadsTo v) marks → IsClosed (EdgeOf v) marks
shut-edges v marks shut x y e m = shut x y (edge-leads v x y e) m

-- a marking that is on its way
pub greying-leads : (v : HeapRows) (roots : List ℕ) (before marks : List Bool) (links : List ℕ) (head : ℕ) → IsTidy v.heap
    → (IsTrue v.follows → AreEndsLive v) → ((x : ℕ) → HasMark marks x → IsLive v.heap x) → Greying roots (EdgeOf v) before marks links head
    → Greying roots (LeadsTo v) before marks links head
greying-leads v roots before marks links head tidy ends live i = record {
  waits = i.waits;
  chained = i.chained;
  shut = shut-leads v before tidy ends (λ x m. live x (i.kept x m)) i.shut;
  len = i.len;
  sound = λ k m. elim (i.sound k m) [ inl w ↦ inl w | inr w ↦ inr (reached-leads v roots k w) ];
  kept = i.kept;
  roots_marked = i.roots_marked;
  closed = λ k m. elim (i.closed k m) [ inl w ↦ inl w | inr w ↦ inr (λ y e. w y (leads-edge v k y tidy ends (live k m) e)) ];
  room = i.room;
}

-- one grey row after the other was scanned
scans-as : (p row : ℕ → Type 0) (a b : List Bool) (g h : List ℕ) → ((k : ℕ) → row k → p k) → ((k : ℕ) → p k → row k) → Scans p a g b h → Scans row a g b h
scans-as p row a b g h there back s = record {
  len = s.len;
  kept = s.kept;
  done = λ k r. s.done k (there k r);
  fresh = λ k m. elim (s.fresh k m) [ inl w ↦ inl w | inr w ↦ inr (back k w.0, w.1) ];
  stays = s.stays;
  within = s.within;
  fewer = s.fewer;
  same = s.same;
}

blackened-edges : (v : HeapRows) (x : ℕ) (a b : List Bool) (g h : List ℕ) → IsTidy v.heap
    → (IsTrue v.follows → AreEndsLive v) → IsLive v.heap x → Blackened (LeadsTo v x) a x g b h → Blackened (EdgeOf v x) a x g b h
blackened-edges v x a b g h tidy ends l s = record {
  grey = s.grey;
  once = s.once;
  scans = scans-as (LeadsTo v x) (EdgeOf v x) a b g h (λ k e. edge-leads v x k e) (λ k e. leads-edge v x k tidy ends l e) s.scans;
  anew = λ k w. elim (s.anew k w) [ inl u ↦ inl u | inr u ↦ inr (u.0, leads-edge v x k tidy ends l u.1) ];
}

pub blackens-edges : (v : HeapRows) (n : ℕ) (a b : List Bool) (g h : List ℕ) → IsTidy v.heap → (IsTrue v.follows → AreEndsLive v)
    → ((x : ℕ) → HasMark b x → IsLive v.heap x) → Blackens (LeadsTo v) n a g b h → Blackens (EdgeOf v) n a g b h
blackens-edges v zero a b g h tidy ends live s = s
blackens-edges v (suc n) a b g h tidy ends live (mid, x, rest, before, step) =
    let was : (z : ℕ) → HasMark mid z → IsLive v.heap z = λ z m. live z (step.scans.kept z m) in
    (mid, x, rest, blackens-edges v n a mid g (x ∷ rest) tidy ends was before, blackened-edges v x mid b rest h tidy ends (was x step.grey) step)

-- what kept says of two heaps of rows
pub rest-kept : (v w : HeapRows) → unmarked_rows w ≡ unmarked_rows v → w ≡ record v { marks = w.marks; links = w.links }
rest-kept v w e = ap (λ (k : HeapRows). record k { marks = w.marks; links = w.links }) e

-- a row with a mark was made
pub marked-within : (rows : List Seen) (x : ℕ) → HasMark (false ∷ map (λ (r : Seen). r.marked) rows) x → (1 ≤ x) × (x ≤ length rows)
marked-within rows zero m = (let f : ⊥ = cc in absurd f)
marked-within [] (suc i) m = (let f : ⊥ = cc in absurd f)
marked-within (r ∷ rows) (suc zero) m = (omega arith, omega arith)
marked-within (r ∷ rows) (suc (suc i)) m = (let w = marked-within rows (suc i) m in (omega arith, omega (arith, w.1)))

pub marked-live : (rows : List Seen) (freed : List ℕ) (vars statics : List (Option ℕ)) (refs : Linked) (follows : Bool) (cap : ℕ) (v : HeapRows)
    → rows_of rows freed vars statics refs follows ≡ v → IsSound (heap_of rows freed vars statics) (stands_in rows) cap
    → ((x : ℕ) → (row_at rows x).marked ≡ true → (row_at rows x).stands ≡ true) → (x : ℕ) → HasMark v.marks x → IsLive v.heap x
marked-live rows freed vars statics refs follows cap v view s up x m = live-seen rows freed vars statics refs follows cap v x view s
    (up x (marked-row rows x (subst (λ (w : HeapRows). HasMark w.marks x) (sym view) m)))

pub ends-live : (rows : List Seen) (freed : List ℕ) (vars statics : List (Option ℕ)) (refs : Linked) (follows : Bool) (c : ℕ) (v : HeapRows)
    → rows_of rows freed vars statics refs follows ≡ v → IsRowHeap rows freed vars statics refs follows c → IsTrue v.follows → AreEndsLive v
ends-live rows freed vars statics refs follows c v view s f p q h l =
    live-seen rows freed vars statics refs follows c v q view s.sound
    (s.references.ends (ap (λ (w : HeapRows). w.follows) view ∙ f) p q (subst (λ (w : HeapRows). Refers w.refs p q) (sym view) h)
    (stands-seen rows freed vars statics refs follows c v p view s.sound l))

-- all marks are taken down: what else is seen of a row stays
pub map-unmarked : {A : Type 0} (f : Seen → A) (rows : List Seen) → ((r : Seen) → f (unmarked_row r) ≡ f r) → map f (map unmarked_row rows) ≡ map f rows
map-unmarked f [] same = refl
map-unmarked f (r ∷ rows) same = ap (λ z. z ∷ map f (map unmarked_row rows)) (same r) ∙ ap (λ z. f r ∷ z) (map-unmarked f rows same)

pub row_at-unmarked : {A : Type 0} (f : Seen → A) (rows : List Seen) → ((r : Seen) → f (unmarked_row r) ≡ f r) → (z : ℕ) → f (row_at (map unmarked_row rows) z) ≡ f (row_at rows z)
row_at-unmarked f rows same zero = refl
row_at-unmarked f [] same (suc i) = refl
row_at-unmarked f (r ∷ rows) same (suc zero) = same r
row_at-unmarked f (r ∷ rows) same (suc (suc i)) = row_at-unmarked f rows same (suc i)

pub unmarked-none : (rows : List Seen) (x : ℕ) → HasMark (false ∷ map (λ (r : Seen). r.marked) (map unmarked_row rows)) x → ⊥
unmarked-none rows zero m = (let f : ⊥ = cc in f)
unmarked-none [] (suc i) m = (let f : ⊥ = cc in f)
unmarked-none (r ∷ rows) (suc zero) m = (let f : ⊥ = cc in f)
unmarked-none (r ∷ rows) (suc (suc i)) m = unmarked-none rows (suc i) m

pub IsRowHeap-unmarked : (rows others : List Seen) (freed : List ℕ) (vars statics : List (Option ℕ)) (refs new : Linked) (follows after : Bool) (c : ℕ) (v : HeapRows)
    → rows_of rows freed vars statics refs follows ≡ v → IsRowHeap rows freed vars statics refs follows c
    → (IsTrue after → AreEndsLive v) → others ≡ map unmarked_row rows → new ≡ record refs { seen = new.seen } → ((k : ℕ) → HasMark new.seen k → ⊥) → IsRowHeap others freed vars statics new after c
IsRowHeap-unmarked rows others freed vars statics refs new follows after c v view s ends is same none =
    let up : (z : ℕ) → (row_at (map unmarked_row rows) z).stands ≡ (row_at rows z).stands = row_at-unmarked (λ (r : Seen). r.stands) rows (λ r. refl) in
    let list : new.refs ≡ refs.refs = ap (λ (l : Linked). l.refs) same in
    subst (λ o. IsRowHeap o freed vars statics new after c) (sym is) record {
      sound = subst (λ (fs : List (List (Option ℕ))). (let h : Heap = record { fields = fs; freed = freed; vars = vars; statics = statics } in IsSound h (stands_in (map unmarked_row rows)) c))
          (sym (map-unmarked (λ (r : Seen). r.fields) rows (λ r. refl)))
          (subst (λ (u : List Bool). IsSound (heap_of rows freed vars statics) u c) (sym (map-unmarked (λ (r : Seen). r.stands) rows (λ r. refl))) s.sound);
      references = record {
        made = λ p f h. omega (arith, s.references.made p f (subst (λ l. Contains l (node p, f)) list h), length-map rows unmarked_row);
        ends = λ f p q h e. up q ∙ stands-seen rows freed vars statics refs follows c v q view s.sound
            (ends f p q (subst (λ (w : HeapRows). Refers w.refs p q) view (subst (λ l. Refers l p q) list h)) (live-seen rows freed vars statics refs follows c v p view s.sound (sym (up p) ∙ e)));
        sights = λ f t through y h. absurd (none (suc t) h);
      };
    }

pub seen-unmarked : (rows others : List Seen) (freed : List ℕ) (vars statics : List (Option ℕ)) (refs new : Linked) (follows after : Bool) (v : HeapRows)
    → rows_of rows freed vars statics refs follows ≡ v → others ≡ map unmarked_row rows → new ≡ record refs { seen = new.seen }
    → rows_of others freed vars statics new after ≡ record v { follows = after; marks = false ∷ map (λ (r : Seen). r.marked) others }
seen-unmarked rows others freed vars statics refs new follows after v view is same =
    ap (λ (fs : List (List (Option ℕ))). let h : Heap = record { fields = fs; freed = freed; vars = vars; statics = statics } in
    (let w : HeapRows = record {
      heap = h;
      refs = new.refs;
      follows = after;
      room = new.room;
      temps = new.temps;
      marks = false ∷ map (λ (r : Seen). r.marked) others;
      links = 0 ∷ map (λ (r : Seen). r.link) others;
    } in w))
    (ap (map (λ (r : Seen). r.fields)) is ∙ map-unmarked (λ (r : Seen). r.fields) rows (λ r. refl))
    ∙ (ap (λ (l : List ℕ). let w : HeapRows = record {
      heap = heap_of rows freed vars statics;
      refs = new.refs;
      follows = after;
      room = new.room;
      temps = new.temps;
      marks = false ∷ map (λ (r : Seen). r.marked) others;
      links = 0 ∷ l;
    } in w)
    (ap (map (λ (r : Seen). r.link)) is ∙ map-unmarked (λ (r : Seen). r.link) rows (λ r. refl))
    ∙ (ap (λ (l : Linked). let w : HeapRows = record {
      heap = heap_of rows freed vars statics;
      refs = l.refs;
      follows = after;
      room = l.room;
      temps = l.temps;
      marks = false ∷ map (λ (r : Seen). r.marked) others;
      links = 0 ∷ map (λ (r : Seen). r.link) rows;
    } in w) same
    ∙ ap (λ (w : HeapRows). record w { follows = after; marks = false ∷ map (λ (r : Seen). r.marked) others }) view))
