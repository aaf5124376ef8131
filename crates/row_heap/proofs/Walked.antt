-- The rows as a marking walks them. A row that stands has its mark and its link at its number. A reference is followed
-- only where the marking follows references; then its source's list is linked, and what a live source leads to is live.
-- To mark a row writes its mark and link alone.
use Rattle.std.proofs.Common.{◌≡◌, ℕ, zero, suc, ◌≤◌, Bool, true, false, List, [], ◌∷◌, map, length, Option, Some, set, refl, sym, ap, subst, ◌∙◌, arith}
use Rattle.std.specs.Prelude.{Contains, slice_get}
use Rattle.std.proofs.lemmas.List.{length-map, map-set}
use Rattle.joint_machine.specs.Components.{node}
use Rattle.joint_machine.specs.PeerReplay.{Refers}
use Rattle.joint_machine.specs.Heaps.{Heap, IsLive, fields_of, numbered_set}
use Rattle.heap_rules.specs.Flags.{IsSound}
use Rattle.reachability.specs.Marks.{HasMark}
use Rattle.row_marking.specs.Traces.{Greyed}
use Rattle.row_heap.specs.Ends.{Linked}
use Rattle.row_heap.specs.Places.{Seen, bare, links_in, marks_in, row_at}
use Rattle.row_heap.specs.Rows.{AreSightsMarked, HeapRows, IsRowHeap, heap_of, rows_of, stands_in}
use Rattle.row_heap.specs.Marks.{unmarked_rows}
use Rattle.row_heap.proofs.Indexed.{stands-within}
use Rattle.row_heap.proofs.Sound.{AreReferences-written, fields-seen, live-stands, map-kept, stands-live, tidy-seen}

-- a live object's row stands, where the heap is seen as v
pub stands-seen : (rows : List Seen) (freed : List ℕ) (vars statics : List (Option ℕ)) (refs : Linked) (follows : Bool) (cap : ℕ) (v : HeapRows) (x : ℕ)
    → rows_of rows freed vars statics refs follows ≡ v → IsSound (heap_of rows freed vars statics) (stands_in rows) cap → IsLive v.heap x → (row_at rows x).stands ≡ true
stands-seen rows freed vars statics refs follows cap v x view s l = live-stands rows freed vars statics cap x s (subst (λ (w : HeapRows). IsLive w.heap x) (sym view) l)

pub live-seen : (rows : List Seen) (freed : List ℕ) (vars statics : List (Option ℕ)) (refs : Linked) (follows : Bool) (cap : ℕ) (v : HeapRows) (x : ℕ)
    → rows_of rows freed vars statics refs follows ≡ v → IsSound (heap_of rows freed vars statics) (stands_in rows) cap → (row_at rows x).stands ≡ true → IsLive v.heap x
live-seen rows freed vars statics refs follows cap v x view s e = subst (λ (w : HeapRows). IsLive w.heap x) view (stands-live rows freed vars statics cap x s e)

-- a part of each row, by its number
pub part-at : {A : Type 0} (f : Seen → A) (d : A) (rows : List Seen) (x : ℕ) → 1 ≤ x → x ≤ length rows → slice_get (d ∷ map f rows) x ≡ Some (f (row_at rows x))
part-at f d rows zero one le = absurd (omega arith)
part-at f d [] (suc i) one le = absurd (omega arith)
part-at f d (r ∷ rows) (suc zero) one le = refl
part-at f d (r ∷ rows) (suc (suc i)) one le = part-at f d rows (suc i) (omega arith) (omega arith)

pub mark-at : (rows : List Seen) (freed : List ℕ) (vars statics : List (Option ℕ)) (refs : Linked) (follows : Bool) (v : HeapRows) (x : ℕ)
    → rows_of rows freed vars statics refs follows ≡ v → (row_at rows x).stands ≡ true → slice_get v.marks x ≡ Some ((row_at rows x).marked)
mark-at rows freed vars statics refs follows v x view up = (let w = stands-within rows x up in
    subst (λ (k : HeapRows). slice_get k.marks x ≡ Some ((row_at rows x).marked)) view (part-at (λ (r : Seen). r.marked) false rows x w.0 w.1))

-- a part of one row is written
pub part-written : {A : Type 0} (f : Seen → A) (d : A) (rows : List Seen) (x : ℕ) (y : Seen) → 1 ≤ x → d ∷ map f (numbered_set rows x y) ≡ set (d ∷ map f rows) x (f y)
part-written f d rows zero y one = absurd (omega arith)
part-written f d rows (suc i) y one = ap (λ l. d ∷ l) (map-set f rows i y)

abbrev pub with_mark : Seen → ℕ → Seen
with_mark r l = record r { marked = true; link = l }

pub IsRowHeap-marked : (rows others : List Seen) (freed : List ℕ) (vars statics : List (Option ℕ)) (refs : Linked) (follows : Bool) (c x l : ℕ)
    → IsRowHeap rows freed vars statics refs follows c → others ≡ numbered_set rows x (with_mark (row_at rows x) l) → IsRowHeap others freed vars statics refs follows c
IsRowHeap-marked rows others freed vars statics refs follows c x l s is =
    let y : Seen = with_mark (row_at rows x) l in
    subst (λ o. IsRowHeap o freed vars statics refs follows c) (sym is) record {
      sound = subst (λ (fs : List (List (Option ℕ))). (let h : Heap = record { fields = fs; freed = freed; vars = vars; statics = statics } in IsSound h (stands_in (numbered_set rows x y)) c))
          (sym (map-kept (λ (r : Seen). r.fields) rows x y refl))
          (subst (λ (u : List Bool). IsSound (heap_of rows freed vars statics) u c) (sym (map-kept (λ (r : Seen). r.stands) rows x y refl)) s.sound);
      references = AreReferences-written rows refs follows x y refl (λ m. refl) s.references;
    }

pub kept-marked : (rows others : List Seen) (freed : List ℕ) (vars statics : List (Option ℕ)) (refs : Linked) (follows : Bool) (x l : ℕ) (v : HeapRows)
    → rows_of rows freed vars statics refs follows ≡ v → others ≡ numbered_set rows x (with_mark (row_at rows x) l)
    → unmarked_rows (rows_of others freed vars statics refs follows) ≡ unmarked_rows v
kept-marked rows others freed vars statics refs follows x l v view is =
    ap (λ (fs : List (List (Option ℕ))). let h : Heap = record { fields = fs; freed = freed; vars = vars; statics = statics } in
    (let w : HeapRows = record { heap = h; refs = refs.refs; follows = follows; room = refs.room; temps = refs.temps; marks = []; links = [] } in w))
    (ap (map (λ (r : Seen). r.fields)) is ∙ map-kept (λ (r : Seen). r.fields) rows x (with_mark (row_at rows x) l) refl)
    ∙ ap unmarked_rows view

pub marks-written : (rows others : List Seen) (freed : List ℕ) (vars statics : List (Option ℕ)) (refs : Linked) (follows : Bool) (x l : ℕ) (v : HeapRows)
    → rows_of rows freed vars statics refs follows ≡ v → 1 ≤ x → others ≡ numbered_set rows x (with_mark (row_at rows x) l)
    → false ∷ map (λ (r : Seen). r.marked) others ≡ set v.marks x true
marks-written rows others freed vars statics refs follows x l v view one is =
    ap (λ o. false ∷ map (λ (r : Seen). r.marked) o) is ∙ (part-written (λ (r : Seen). r.marked) false rows x (with_mark (row_at rows x) l) one ∙ ap (λ (w : HeapRows). set w.marks x true) view)

pub links-written : (rows others : List Seen) (freed : List ℕ) (vars statics : List (Option ℕ)) (refs : Linked) (follows : Bool) (x l : ℕ) (v : HeapRows)
    → rows_of rows freed vars statics refs follows ≡ v → 1 ≤ x → others ≡ numbered_set rows x (with_mark (row_at rows x) l)
    → 0 ∷ map (λ (r : Seen). r.link) others ≡ set v.links x l
links-written rows others freed vars statics refs follows x l v view one is =
    ap (λ o. 0 ∷ map (λ (r : Seen). r.link) o) is ∙ (part-written (λ (r : Seen). r.link) 0 rows x (with_mark (row_at rows x) l) one ∙ ap (λ (w : HeapRows). set w.links x l) view)

pub link-at : (rows : List Seen) (freed : List ℕ) (vars statics : List (Option ℕ)) (refs : Linked) (follows : Bool) (v : HeapRows) (x : ℕ)
    → rows_of rows freed vars statics refs follows ≡ v → (row_at rows x).stands ≡ true → slice_get v.links x ≡ Some ((row_at rows x).link)
link-at rows freed vars statics refs follows v x view up = (let w = stands-within rows x up in
    subst (λ (k : HeapRows). slice_get k.links x ≡ Some ((row_at rows x).link)) view (part-at (λ (r : Seen). r.link) 0 rows x w.0 w.1))

-- a mark of the heap is that of a row, and the other way round
pub marked-row : (rows : List Seen) (x : ℕ) → HasMark (false ∷ map (λ (r : Seen). r.marked) rows) x → (row_at rows x).marked ≡ true
marked-row rows zero m = (let f : ⊥ = cc in absurd f)
marked-row [] (suc i) m = (let f : ⊥ = cc in absurd f)
marked-row (r ∷ rows) (suc zero) m = cc
marked-row (r ∷ rows) (suc (suc i)) m = marked-row rows (suc i) m

pub row-marked : (rows : List Seen) (x : ℕ) → (row_at rows x).marked ≡ true → HasMark (false ∷ map (λ (r : Seen). r.marked) rows) x
row-marked rows zero e = (let f : ⊥ = cc in absurd f)
row-marked [] (suc i) e = (let f : ⊥ = cc in absurd f)
row-marked (r ∷ rows) (suc zero) e = ap (λ b. Some b) e
row-marked (r ∷ rows) (suc (suc i)) e = row-marked rows (suc i) e

-- rows that differ in marks and links alone
pub map-bare : {A : Type 0} (f : Seen → A) → ((r : Seen) → f (bare r) ≡ f r) → (rows others : List Seen) → map bare others ≡ map bare rows → map f others ≡ map f rows
map-bare f same [] [] e = refl
map-bare f same [] (o ∷ others) e = (let z : ⊥ = cc in absurd z)
map-bare f same (r ∷ rows) [] e = (let z : ⊥ = cc in absurd z)
map-bare f same (r ∷ rows) (o ∷ others) e =
    let here : bare o ≡ bare r = cc in
    let rest : map bare others ≡ map bare rows = cc in
    ap (λ z. z ∷ map f others) (sym (same o) ∙ (ap f here ∙ same r)) ∙ ap (λ z. f r ∷ z) (map-bare f same rows others rest)

pub row_at-bare : {A : Type 0} (f : Seen → A) → ((r : Seen) → f (bare r) ≡ f r) → (rows others : List Seen) → map bare others ≡ map bare rows → (z : ℕ) → f (row_at others z) ≡ f (row_at rows z)
row_at-bare f same rows others e zero = refl
row_at-bare f same [] [] e (suc i) = refl
row_at-bare f same [] (o ∷ others) e (suc i) = (let z : ⊥ = cc in absurd z)
row_at-bare f same (r ∷ rows) [] e (suc i) = (let z : ⊥ = cc in absurd z)
row_at-bare f same (r ∷ rows) (o ∷ others) e (suc zero) =
    let here : bare o ≡ bare r = cc in
    sym (same o) ∙ (ap f here ∙ same r)
row_at-bare f same (r ∷ rows) (o ∷ others) e (suc (suc i)) =
    let rest : map bare others ≡ map bare rows = cc in
    row_at-bare f same rows others rest (suc i)

-- the sights stay so where marks are only given
pub sights-raised : (rows others : List Seen) (refs : Linked) → map bare others ≡ map bare rows
    → ((k : ℕ) → HasMark (marks_in rows) k → HasMark (marks_in others) k) → AreSightsMarked refs rows → AreSightsMarked refs others
sights-raised rows others refs is raised a t through y h w e =
    marked-row others y (raised y (row-marked rows y (a t through y h w (sym (row_at-bare (λ (r : Seen). r.stands) (λ r. refl) rows others is y) ∙ e))))

pub IsRowHeap-bare : (rows others : List Seen) (freed : List ℕ) (vars statics : List (Option ℕ)) (refs new : Linked) (follows : Bool) (c : ℕ)
    → IsRowHeap rows freed vars statics refs follows c → map bare others ≡ map bare rows → new.refs ≡ refs.refs → (follows ≡ true → AreSightsMarked new others)
    → IsRowHeap others freed vars statics new follows c
IsRowHeap-bare rows others freed vars statics refs new follows c s is same sights =
    let up : (z : ℕ) → (row_at others z).stands ≡ (row_at rows z).stands = row_at-bare (λ (r : Seen). r.stands) (λ r. refl) rows others is in
    let len : length others ≡ length rows = sym (length-map others bare) ∙ (ap length is ∙ length-map rows bare) in
    record {
      sound = subst (λ (fs : List (List (Option ℕ))). (let h : Heap = record { fields = fs; freed = freed; vars = vars; statics = statics } in IsSound h (stands_in others) c))
          (sym (map-bare (λ (r : Seen). r.fields) (λ r. refl) rows others is))
          (subst (λ (u : List Bool). IsSound (heap_of rows freed vars statics) u c) (sym (map-bare (λ (r : Seen). r.stands) (λ r. refl) rows others is)) s.sound);
      references = record {
        made = λ p f h. omega (arith, len, s.references.made p f (subst (λ l. Contains l (node p, f)) same h));
        ends = λ f p q h e. up q ∙ s.references.ends f p q (subst (λ l. Refers l p q) same h) (sym (up p) ∙ e);
        sights = sights;
      };
    }

pub kept-bare : (rows others : List Seen) (freed : List ℕ) (vars statics : List (Option ℕ)) (refs new : Linked) (follows : Bool) (v : HeapRows)
    → rows_of rows freed vars statics refs follows ≡ v → map bare others ≡ map bare rows → new ≡ record refs { seen = new.seen; links = new.links }
    → unmarked_rows (rows_of others freed vars statics new follows) ≡ unmarked_rows v
kept-bare rows others freed vars statics refs new follows v view is same =
    ap (λ (fs : List (List (Option ℕ))). let h : Heap = record { fields = fs; freed = freed; vars = vars; statics = statics } in
    (let w : HeapRows = record { heap = h; refs = new.refs; follows = follows; room = new.room; temps = new.temps; marks = []; links = [] } in w))
    (map-bare (λ (r : Seen). r.fields) (λ r. refl) rows others is)
    ∙ (ap (λ (l : Linked). let w : HeapRows = record { heap = heap_of rows freed vars statics; refs = l.refs; follows = follows; room = l.room; temps = l.temps; marks = []; links = [] } in w) same
    ∙ ap unmarked_rows view)

-- what a row's fields hold, as the heap says it
pub held-seen : (rows : List Seen) (freed : List ℕ) (vars statics : List (Option ℕ)) (refs : Linked) (follows : Bool) (cap : ℕ) (v : HeapRows) (x y : ℕ)
    → rows_of rows freed vars statics refs follows ≡ v → IsSound (heap_of rows freed vars statics) (stands_in rows) cap → IsLive v.heap x → Contains (row_at rows x).fields (Some y)
    → (row_at rows y).stands ≡ true
held-seen rows freed vars statics refs follows cap v x y view s l h =
    stands-seen rows freed vars statics refs follows cap v y view s
    ((tidy-seen rows freed vars statics refs follows v cap view s).held x y l (subst (λ fs. Contains fs (Some y)) (sym (fields-seen rows freed vars statics refs follows v x view)) h))

pub greyed-seen : (rows others : List Seen) (freed : List ℕ) (vars statics : List (Option ℕ)) (refs : Linked) (follows : Bool) (x h i : ℕ) (v : HeapRows)
    → rows_of rows freed vars statics refs follows ≡ v → Greyed (λ y. Contains (row_at rows x).fields (Some y)) (marks_in rows) (links_in rows) h (marks_in others) (links_in others) i
    → Greyed (λ y. Contains (fields_of v.heap x) (Some y)) v.marks v.links h (marks_in others) (links_in others) i
greyed-seen rows others freed vars statics refs follows x h i v view y =
    subst (λ (fs : List (Option ℕ)). Greyed (λ y. Contains fs (Some y)) v.marks v.links h (marks_in others) (links_in others) i) (sym (fields-seen rows freed vars statics refs follows v x view))
    (subst (λ (w : HeapRows). Greyed (λ y. Contains (row_at rows x).fields (Some y)) w.marks w.links h (marks_in others) (links_in others) i) view y)
