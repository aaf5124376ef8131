-- Rows that are removed one after another. A removed row keeps its fields and doesn't stand, so it can't be one of
-- those that stand; the others are as they were. Which rows stand is the list of flags of `heap_rules`, whose lemmas on
-- flags taken down are used as they are.
use Rattle.std.proofs.Common.{◌≡◌, ℕ, zero, suc, ◌+◌, ◌≤◌, ◌<◌, Bool, true, false, List, [], ◌∷◌, ◌++◌, map, length, take, Option, Some, get_or, refl, sym, ap, subst, ◌∙◌}
use Rattle.std.specs.Prelude.{Contains, All}
use Rattle.std.proofs.lemmas.List.{length-map}
use Rattle.joint_machine.specs.Components.{Rises}
use Rattle.joint_machine.specs.Heaps.{Heap, IsLive, numbered_set, with_freed}
use Rattle.heap_rules.specs.Flags.{IsSound, IsUp, TakesDown, up_count}
use Rattle.heap_rules.specs.Tidy.{CanFree}
use Rattle.heap_rules.proofs.Numbered.{numbered_set-index}
use Rattle.heap_rules.proofs.Sound.{IsSound-gone, TakesDown-here, TakesDown-next, TakesDown-none}
use Rattle.row_heap.specs.Ends.{Linked}
use Rattle.row_heap.specs.Places.{Seen, row_at, gone}
use Rattle.row_heap.specs.Rows.{HeapRows, IsRowHeap, NoneRefers, RowsFreed, heap_of, rows_of, stands_in}
use Rattle.row_heap.proofs.Sound.{AreReferences-as, flag-stands, map-kept, map-written, stands-flag, stands-live}

-- a row that stands after one was removed is as it was
pub row_at-removed : (rows : List Seen) (x : ℕ) (fs : List (Option ℕ)) (z : ℕ) → (row_at (numbered_set rows x (gone fs)) z).stands ≡ true → row_at (numbered_set rows x (gone fs)) z ≡ row_at rows z
row_at-removed rows zero fs z e = refl
row_at-removed [] (suc i) fs z e = refl
row_at-removed (r ∷ rows) (suc zero) fs zero e = refl
row_at-removed (r ∷ rows) (suc zero) fs (suc zero) e = (let f : ⊥ = cc in absurd f)
row_at-removed (r ∷ rows) (suc zero) fs (suc (suc k)) e = refl
row_at-removed (r ∷ rows) (suc (suc i)) fs zero e = refl
row_at-removed (r ∷ rows) (suc (suc i)) fs (suc zero) e = refl
row_at-removed (r ∷ rows) (suc (suc i)) fs (suc (suc k)) e = row_at-removed rows (suc i) fs (suc k) e

pub RowsFreed-none : (rows : List Seen) → RowsFreed [] rows rows
RowsFreed-none rows = record { flags = TakesDown-none (stands_in rows); fields = refl; others = λ x e. refl }

-- one more row of a list is removed
pub RowsFreed-next : {A : Type 0} (f : A → ℕ) (xs : List A) (i : ℕ) (x : A) (n : ℕ) (old mid new : List Seen)
    → RowsFreed (map f (take i xs)) old mid → All (IsUp (stands_in old)) (map f xs) → Rises (map f xs) → i < length xs → x ≡ get_or xs i x → n ≡ f x
    → new ≡ numbered_set mid n (gone (row_at mid n).fields) → RowsFreed (map f (take (i + 1) xs)) old new
RowsFreed-next f xs i x n old mid new r up rises l e m is =
    let h = TakesDown-here f xs i x n (stands_in old) (stands_in mid) r.flags up rises l e m in
    let put : RowsFreed (map f (take (i + 1) xs)) old (numbered_set mid n (gone (row_at mid n).fields)) = record {
      flags = subst (TakesDown (map f (take (i + 1) xs)) (stands_in old))
          (numbered_set-index (stands_in mid) n false h.2 ∙ sym (map-written (λ (q : Seen). q.stands) mid n (gone (row_at mid n).fields)))
          (TakesDown-next f xs i x n (stands_in old) (stands_in mid) r.flags up rises l e m);
      fields = map-kept (λ (q : Seen). q.fields) mid n (gone (row_at mid n).fields) refl ∙ r.fields;
      others = λ z s. (let same = row_at-removed mid n (row_at mid n).fields z s in same ∙ r.others z (sym (ap (λ (q : Seen). q.stands) same) ∙ s));
    } in
    subst (RowsFreed (map f (take (i + 1) xs)) old) (sym is) put

-- the row of an element whose turn comes still stands
pub RowsFreed-here : {A : Type 0} (f : A → ℕ) (xs : List A) (i : ℕ) (x : A) (n : ℕ) (old mid : List Seen)
    → RowsFreed (map f (take i xs)) old mid → All (IsUp (stands_in old)) (map f xs) → Rises (map f xs) → i < length xs → x ≡ get_or xs i x → n ≡ f x
    → ((row_at mid n).stands ≡ true) × (1 ≤ up_count (stands_in mid))
RowsFreed-here f xs i x n old mid r up rises l e m =
    let h = TakesDown-here f xs i x n (stands_in old) (stands_in mid) r.flags up rises l e m in
    (flag-stands mid n true (r.flags.other n h.1 ∙ h.0), h.4)

-- the heap without the rows of a list, whose references lead to no row of the list
pub IsRowHeap-freed : (old new : List Seen) (freed after xs : List ℕ) (vars statics : List (Option ℕ)) (refs : Linked) (follows : Bool) (c e : ℕ) (v : HeapRows)
    → rows_of old freed vars statics refs follows ≡ v → IsRowHeap old freed vars statics refs follows c
    → RowsFreed xs old new → CanFree v.heap xs → NoneRefers v xs → after ≡ freed ++ xs → e ≡ c → IsRowHeap new after vars statics refs follows e
IsRowHeap-freed old new freed after xs vars statics refs follows c e v view s r can none is space =
    let can' : CanFree (heap_of old freed vars statics) xs = subst (λ (w : HeapRows). CanFree w.heap xs) (sym view) can in
    let none' : NoneRefers (rows_of old freed vars statics refs follows) xs = subst (λ (w : HeapRows). NoneRefers w xs) (sym view) none in
    let live : (x : ℕ) → (row_at old x).stands ≡ true → IsLive (heap_of old freed vars statics) x = λ x t. stands-live old freed vars statics c x s.sound t in
    let stays : (x : ℕ) → (row_at new x).stands ≡ true → Contains xs x → ⊥ = λ x t k. (let z : Some true ≡ Some false = sym (stands-flag new x t) ∙ r.flags.down x k in (let f : ⊥ = cc in f)) in
    record {
      sound = subst (λ (fs : List (List (Option ℕ))). (let h : Heap = record { fields = fs; freed = after; vars = vars; statics = statics } in IsSound h (stands_in new) e)) (sym r.fields)
          (IsSound-gone (heap_of old freed vars statics) (heap_of old freed vars statics) (stands_in old) (stands_in new) c e xs after refl s.sound r.flags can' is space);
      references = AreReferences-as old new refs follows (sym (length-map new (λ (q : Seen). q.fields)) ∙ (ap length r.fields ∙ length-map old (λ (q : Seen). q.fields)))
          (λ z t. (sym (ap (λ (q : Seen). q.stands) (r.others z t)) ∙ t, λ m. ap (λ (q : Seen). q.marked) (r.others z t) ∙ m))
          (λ f p q h t l. flag-stands new q true (r.flags.other q (none' f p q h (live p (sym (ap (λ (k : Seen). k.stands) (r.others p t)) ∙ t)) (stays p t)) ∙ stands-flag old q l))
          s.references;
    }

pub seen-freed : (old new : List Seen) (freed after xs : List ℕ) (vars statics : List (Option ℕ)) (refs : Linked) (follows : Bool) (v : HeapRows)
    → rows_of old freed vars statics refs follows ≡ v → RowsFreed xs old new → after ≡ freed ++ xs
    → heap_of new after vars statics ≡ with_freed v.heap xs
seen-freed old new freed after xs vars statics refs follows v view r is =
    ap (λ (fs : List (List (Option ℕ))). let h : Heap = record { fields = fs; freed = after; vars = vars; statics = statics } in h) r.fields
    ∙ (ap (λ (l : List ℕ). let h : Heap = record { fields = map (λ (q : Seen). q.fields) old; freed = l; vars = vars; statics = statics } in h) is
    ∙ ap (λ (w : HeapRows). with_freed w.heap xs) view)
