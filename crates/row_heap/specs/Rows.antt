-- A heap whose objects are rows that can be marked: the heap of the definition, and beside it marks, links and
-- references. (This project's own.)
use Rattle.std.specs.Prelude.{◌≡◌, ℕ, ◌*◌, ◌≤◌, ◌<◌, ◌↔◌, Bool, true, false, List, [], ◌∷◌, ◌++◌, map, length, sum}
use Rattle.std.specs.Prelude.{Option, Contains, suc}
use Rattle.joint_machine.specs.Components.{Rises, End, node, temporary}
use Rattle.joint_machine.specs.PeerReplay.{LeadsOver, Refers}
use Rattle.joint_machine.specs.Heaps.{Heap, IsLive, opening_heap}
use Rattle.heap_rules.specs.Flags.{IsSound, TakesDown}
use Rattle.reachability.specs.Marks.{HasMark}
use Rattle.row_heap.specs.Ends.{IsLastBelow, Linked}
use Rattle.row_heap.specs.Places.{Seen, row_at, is_white}

-- the heap; the references from an end to an end, in the order in which they came, and whether a marking follows them;
-- for how many more of them and for how many temporaries there is room; and each row's mark and link, where the number
-- 0 is no row
pub record HeapRows : Type 0 where
  pub heap : Heap
  pub refs : List (End × End)
  pub follows : Bool
  pub room : ℕ
  pub temps : ℕ
  pub marks : List Bool
  pub links : List ℕ

-- no object, and no reference
abbrev pub opening_rows : HeapRows
opening_rows = record {
  heap = opening_heap;
  refs = [];
  follows = false;
  room = 0;
  temps = 0;
  marks = false ∷ [];
  links = 0 ∷ [];
}

-- the heap of some rows
abbrev pub heap_of : List Seen → List ℕ → List (Option ℕ) → List (Option ℕ) → Heap
heap_of rows freed vars statics = record {
  fields = map (λ r. r.fields) rows;
  freed = freed;
  vars = vars;
  statics = statics;
}

-- which rows stand
abbrev pub stands_in : List Seen → List Bool
stands_in rows = map (λ r. r.stands) rows

-- what is seen of the rows, the freed ones, the slots and the references
abbrev pub rows_of : List Seen → List ℕ → List (Option ℕ) → List (Option ℕ) → Linked → Bool → HeapRows
rows_of rows freed vars statics refs follows = record {
  heap = heap_of rows freed vars statics;
  refs = refs.refs;
  follows = follows;
  room = refs.room;
  temps = refs.temps;
  marks = false ∷ map (λ r. r.marked) rows;
  links = 0 ∷ map (λ r. r.link) rows;
}

-- what a temporary that the marking has seen leads to has a mark, directly or through others
abbrev pub AreSightsMarked : Linked → List Seen → Type 0
AreSightsMarked refs rows = (t : ℕ) (through : List ℕ) (y : ℕ) → HasMark refs.seen (suc t)
    → LeadsOver refs.refs (temporary t) through y → (row_at rows y).stands ≡ true → (row_at rows y).marked ≡ true

-- the references of a row that stands lead to that one, directly or over temporaries
abbrev pub IsLedTo : List (End × End) → List Seen → ℕ → Type 0
IsLedTo refs rows q = (p : ℕ) × ((row_at rows p).stands ≡ true) × Refers refs p q

-- and the row is that end, and its last reference stands at place r, counted from 1
abbrev pub IsLedFrom : List (End × End) → List Seen → End → ℕ → ℕ → Type 0
IsLedFrom refs rows e r q = (p : ℕ) × (e ≡ node p) × IsLastBelow refs (node p) (length refs) r
    × ((row_at rows p).stands ≡ true) × Refers refs p q

-- references lead from rows that were made; where a marking follows them, what a standing row's reference leads to
-- stands, and what a temporary leads to that the marking has seen is marked
pub record AreReferences (rows : List Seen) (refs : Linked) (follows : Bool) : Type 0 where
  pub made : (p : ℕ) (f : End) → Contains refs.refs (node p, f) → p ≤ length rows
  pub ends : follows ≡ true → (p q : ℕ) → Refers refs.refs p q
      → (row_at rows p).stands ≡ true → (row_at rows q).stands ≡ true
  pub sights : follows ≡ true → AreSightsMarked refs rows

-- the first n objects are freed
abbrev pub AreGone : ℕ → List ℕ → Type 0
AreGone n freed = (x : ℕ) → 1 ≤ x → x ≤ n → Contains freed x

-- the rows have so many fields together, which is at most 255 for each
pub record IsFieldCount (n : ℕ) (rows : List Seen) : Type 0 where
  pub exact : n ≡ sum (map (λ (r : Seen). length r.fields) rows)
  pub most : n ≤ 255 * length rows

-- the heap is sound, where its flags are which rows stand, and so are the references
pub record IsRowHeap (rows : List Seen) (freed : List ℕ) (vars statics : List (Option ℕ))
    (refs : Linked) (follows : Bool) (freed_capacity : ℕ) : Type 0 where
  pub sound : IsSound (heap_of rows freed vars statics) (stands_in rows) freed_capacity
  pub references : AreReferences rows refs follows

-- the rows of a list were removed, and no others; the fields of all are still seen
pub record RowsFreed (xs : List ℕ) (old new : List Seen) : Type 0 where
  pub flags : TakesDown xs (stands_in old) (stands_in new)
  pub fields : map (λ (r : Seen). r.fields) new ≡ map (λ (r : Seen). r.fields) old
  pub others : (x : ℕ) → (row_at new x).stands ≡ true → row_at new x ≡ row_at old x

-- of the rows up to a number those without a mark were removed, in rising order, and their numbers put last on a list;
-- the marks are as before
pub record RowsSwept (to : ℕ) (old new : List Seen) (before after : List ℕ) : Type 0 where
  pub swept : List ℕ
  pub rises : Rises swept
  pub exact : (x : ℕ) → Contains swept x ↔ ((x ≤ to) × (is_white (row_at old x) ≡ true))
  pub rows : RowsFreed swept old new
  pub marks : map (λ (r : Seen). r.marked) new ≡ map (λ (r : Seen). r.marked) old
  pub freed : after ≡ before ++ swept

-- where a marking follows the references, none leads from an object that stays to one of a list
abbrev pub NoneRefers : HeapRows → List ℕ → Type 0
NoneRefers v xs = v.follows ≡ true → (p q : ℕ) → Refers v.refs p q
    → IsLive v.heap p → (Contains xs p → ⊥) → Contains xs q → ⊥

-- an end that a further reference may have: a live object, or a temporary for which there is room
abbrev pub MayRefer : HeapRows → End → Type 0
MayRefer v (node x) = IsLive v.heap x
MayRefer v (temporary t) = t < v.temps

abbrev pub MayReferBoth : HeapRows → End × End → Type 0
MayReferBoth v p = MayRefer v p.0 × MayRefer v p.1
