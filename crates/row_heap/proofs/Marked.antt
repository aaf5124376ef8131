-- Rows with the marks and the links that stand beside them. What marks and links don't touch is seen as without them,
-- so a write to a row of the slab is a write to the row as it is seen; a write to all three lists at one place writes
-- the row with both. A row with a mark stands as long as each row that is written is such a row, and a marking through
-- the fields of a row marks rows that stand.
use Rattle.std.proofs.Common.{◌≡◌, ℕ, zero, suc, ◌-◌, ◌≤◌, ◌<◌, ◌⊎◌, inl, inr, Bool, true, false, List, [], ◌∷◌, ◌++◌, map, length, replicate, drop, get_or, set, Option, Some, None, is_some, refl}
use Rattle.std.proofs.Common.{sym, ap}
use Rattle.std.proofs.Common.{subst, ◌∙◌, arith, length-append}
use Rattle.std.specs.Prelude.{Contains, slice_get}
use Rattle.std.proofs.Math.ListN.{length-set}
use Rattle.std.proofs.lemmas.List.{length-map, map-append}
use Rattle.std.proofs.lemmas.List.Elements.{Contains-append_left, Contains-push, Contains-push_cases}
use Rattle.joint_machine.specs.Heaps.{numbered_set}
use Rattle.heap_rules.proofs.Numbered.{numbered_set-index}
use Rattle.reachability.specs.Marks.{HasMark}
use Rattle.reachability.proofs.Marking.{Scans-seen, read-mark, set-keeps, set-marked}
use Rattle.row_marking.specs.Traces.{Greyed}
use Rattle.row_marking.proofs.Greys.{Greyed-new, Greyed-then}
use Rattle.std.specs.declared.snapshot.Snapshot.{Snapshot}
use Rattle.slab.specs.Slab.{Slab, get, Updates, with_value}
use Rattle.row_heap.specs.declared.fields.Fields.{Fields}
use Rattle.row_heap.specs.declared.places.Row.{Row}
use Rattle.row_heap.specs.declared.places.RowPlace.{RowPlace}
use Rattle.row_heap.specs.declared.places.RowPlace.TheVariants.{At, Gone, Leaf}
use Rattle.row_heap.specs.Places.{Seen, AreRows, DoMarkedStand, IsIndex, bare, gone, leaf, marks_in, links_in, row_at, seen_at, standing, unmarked_row, with_marks}
use Rattle.row_heap.proofs.Indexed.{IsIndex-freed, IsIndex-grown, IsIndex-leaf, IsIndex-pushed, KeepsOthers, index-written, key-there, read-place, read-row, row-of, rows-self, rows-written, seen-row}
use Rattle.row_heap.proofs.Indexed.{shown-freed, shown-grown, shown-pushed, stands-gone, stands-within}
use Rattle.row_heap.specs.Ends.{Raises}
use Rattle.row_heap.proofs.Edges.{unmarked-none}
use Rattle.row_heap.proofs.Walked.{marked-row, row-marked}

-- what marks and links don't touch
pub row_at-under : {A : Type 0} (f : Seen → A) → ((r : Seen) (m : Bool) (l : ℕ) → f (record r { marked = m; link = l }) ≡ f r)
    → (rows : List Seen) (marks : List Bool) (links : List ℕ) (x : ℕ) → f (row_at (with_marks rows marks links) x) ≡ f (row_at rows x)
row_at-under f same rows marks links zero = refl
row_at-under f same [] marks links (suc i) = refl
row_at-under f same (r ∷ rows) marks links (suc zero) = same r (get_or marks 0 false) (get_or links 0 0)
row_at-under f same (r ∷ rows) marks links (suc (suc i)) = row_at-under f same rows (drop 1 marks) (drop 1 links) (suc i)

pub map-under : {A : Type 0} (f : Seen → A) → ((r : Seen) (m : Bool) (l : ℕ) → f (record r { marked = m; link = l }) ≡ f r)
    → (rows : List Seen) (marks : List Bool) (links : List ℕ) → map f (with_marks rows marks links) ≡ map f rows
map-under f same [] marks links = refl
map-under f same (r ∷ rows) marks links =
    ap (λ z. z ∷ map f (with_marks rows (drop 1 marks) (drop 1 links))) (same r (get_or marks 0 false) (get_or links 0 0)) ∙ ap (λ z. f r ∷ z) (map-under f same rows (drop 1 marks) (drop 1 links))

pub length-with_marks : (rows : List Seen) (marks : List Bool) (links : List ℕ) → length (with_marks rows marks links) ≡ length rows
length-with_marks [] marks links = refl
length-with_marks (r ∷ rows) marks links = ap suc (length-with_marks rows (drop 1 marks) (drop 1 links))

-- the marks and links themselves
pub marks-with : (rows : List Seen) (marks : List Bool) (links : List ℕ) → length marks ≡ length rows → map (λ (r : Seen). r.marked) (with_marks rows marks links) ≡ marks
marks-with [] [] links e = refl
marks-with [] (m ∷ marks) links e = absurd (omega (arith, e))
marks-with (r ∷ rows) [] links e = absurd (omega (arith, e))
marks-with (r ∷ rows) (m ∷ marks) links e = ap (λ z. m ∷ z) (marks-with rows marks (drop 1 links) (omega (arith, e)))

pub links-with : (rows : List Seen) (marks : List Bool) (links : List ℕ) → length links ≡ length rows → map (λ (r : Seen). r.link) (with_marks rows marks links) ≡ links
links-with [] marks [] e = refl
links-with [] marks (l ∷ links) e = absurd (omega (arith, e))
links-with (r ∷ rows) marks [] e = absurd (omega (arith, e))
links-with (r ∷ rows) marks (l ∷ links) e = ap (λ z. l ∷ z) (links-with rows (drop 1 marks) links (omega (arith, e)))

-- a row is written in what isn't mark or link
with_marks-written : (g : Seen → Seen) → ((r : Seen) (m : Bool) (l : ℕ) → g (record r { marked = m; link = l }) ≡ record (g r) { marked = m; link = l })
    → (rows : List Seen) (marks : List Bool) (links : List ℕ) (x : ℕ)
    → with_marks (numbered_set rows x (g (row_at rows x))) marks links ≡ numbered_set (with_marks rows marks links) x (g (row_at (with_marks rows marks links) x))
with_marks-written g apart rows marks links zero = refl
with_marks-written g apart [] marks links (suc i) = refl
with_marks-written g apart (r ∷ rows) marks links (suc zero) = ap (λ z. z ∷ with_marks rows (drop 1 marks) (drop 1 links)) (sym (apart r (get_or marks 0 false) (get_or links 0 0)))
with_marks-written g apart (r ∷ rows) marks links (suc (suc i)) =
    let q : Seen = record r { marked = get_or marks 0 false; link = get_or links 0 0 } in
    ap (λ z. q ∷ z) (with_marks-written g apart rows (drop 1 marks) (drop 1 links) (suc i))

-- a row is written with its mark and its link
with_marks-set : (rows : List Seen) (marks : List Bool) (links : List ℕ) (x : ℕ) (r : Seen) (m : Bool) (l : ℕ) → length marks ≡ length rows → length links ≡ length rows
    → with_marks (numbered_set rows x r) (numbered_set marks x m) (numbered_set links x l) ≡ numbered_set (with_marks rows marks links) x (record r { marked = m; link = l })
with_marks-set rows marks links zero r m l em el = refl
with_marks-set [] marks links (suc i) r m l em el = refl
with_marks-set (q ∷ rows) [] links (suc i) r m l em el = absurd (omega (arith, em))
with_marks-set (q ∷ rows) (n ∷ marks) [] (suc i) r m l em el = absurd (omega (arith, el))
with_marks-set (q ∷ rows) (n ∷ marks) (k ∷ links) (suc zero) r m l em el = refl
with_marks-set (q ∷ rows) (n ∷ marks) (k ∷ links) (suc (suc i)) r m l em el =
    let p : Seen = record q { marked = n; link = k } in
    ap (λ z. p ∷ z) (with_marks-set rows marks links (suc i) r m l (omega (arith, em)) (omega (arith, el)))

pub shown-set : (base shown rows : List Seen) (marks : List Bool) (links : List ℕ) (x : ℕ) (r : Seen) (m : Bool) (l : ℕ)
    → with_marks base marks links ≡ rows → length marks ≡ length base → length links ≡ length base → 1 ≤ x → shown ≡ numbered_set base x r
    → with_marks shown (set marks (x - 1) m) (set links (x - 1) l) ≡ numbered_set rows x (record r { marked = m; link = l })
shown-set base shown rows marks links x r m l view em el one is =
    ap (λ ms. with_marks shown ms (set links (x - 1) l)) (numbered_set-index marks x m one)
    ∙ (ap (λ ls. with_marks shown (numbered_set marks x m) ls) (numbered_set-index links x l one)
    ∙ (ap (λ b. with_marks b (numbered_set marks x m) (numbered_set links x l)) is
    ∙ (with_marks-set base marks links x r m l em el ∙ ap (λ z. numbered_set z x (record r { marked = m; link = l })) view)))

pub shown-marked : (base rows : List Seen) (marks : List Bool) (links : List ℕ) (x : ℕ) (l : ℕ)
    → with_marks base marks links ≡ rows → length marks ≡ length base → length links ≡ length base → 1 ≤ x → x ≤ length base
    → with_marks base (set marks (x - 1) true) (set links (x - 1) l) ≡ numbered_set rows x (record (row_at rows x) { marked = true; link = l })
shown-marked base rows marks links x l view em el one le =
    let with_mark : Seen → Seen = λ r. record r { marked = true; link = l } in
    shown-set base base rows marks links x (row_at base x) true l view em el one (sym (rows-self base x (row_at base x) one le refl))
    ∙ ap (numbered_set rows x) (sym (row_at-under with_mark (λ r m k. refl) base marks links x) ∙ ap (λ z. with_mark (row_at z x)) view)

pub shown-changed : (g : Seen → Seen) → ((r : Seen) (m : Bool) (l : ℕ) → g (record r { marked = m; link = l }) ≡ record (g r) { marked = m; link = l })
    → (base shown rows : List Seen) (marks : List Bool) (links : List ℕ) (x : ℕ) → with_marks base marks links ≡ rows → shown ≡ numbered_set base x (g (row_at base x))
    → with_marks shown marks links ≡ numbered_set rows x (g (row_at rows x))
shown-changed g apart base shown rows marks links x view is =
    ap (λ b. with_marks b marks links) is ∙ (with_marks-written g apart base marks links x ∙ ap (λ z. numbered_set z x (g (row_at z x))) view)

-- a further row
pub with_marks-push : (rows : List Seen) (marks : List Bool) (links : List ℕ) (r : Seen) (m : Bool) (l : ℕ) → length marks ≡ length rows → length links ≡ length rows
    → with_marks (rows ++ r ∷ []) (marks ++ m ∷ []) (links ++ l ∷ []) ≡ with_marks rows marks links ++ record r { marked = m; link = l } ∷ []
with_marks-push [] [] [] r m l em el = refl
with_marks-push [] (n ∷ marks) links r m l em el = absurd (omega (arith, em))
with_marks-push [] [] (k ∷ links) r m l em el = absurd (omega (arith, el))
with_marks-push (q ∷ rows) [] links r m l em el = absurd (omega (arith, em))
with_marks-push (q ∷ rows) (n ∷ marks) [] r m l em el = absurd (omega (arith, el))
with_marks-push (q ∷ rows) (n ∷ marks) (k ∷ links) r m l em el =
    let p : Seen = record q { marked = n; link = k } in
    ap (λ z. p ∷ z) (with_marks-push rows marks links r m l (omega (arith, em)) (omega (arith, el)))

-- all marks are down
pub with_marks-down : (rows : List Seen) (n : ℕ) (marks : List Bool) (links : List ℕ) → with_marks rows (replicate n false) links ≡ map unmarked_row (with_marks rows marks links)
with_marks-down [] n marks links = refl
with_marks-down (r ∷ rows) zero marks links =
    let q : Seen = record r { marked = false; link = get_or links 0 0 } in
    ap (λ z. q ∷ z) (with_marks-down rows zero (drop 1 marks) (drop 1 links))
with_marks-down (r ∷ rows) (suc n) marks links =
    let q : Seen = record r { marked = false; link = get_or links 0 0 } in
    ap (λ z. q ∷ z) (with_marks-down rows n (drop 1 marks) (drop 1 links))

-- a row with a mark stands
pub stand-set : (rows : List Seen) (x : ℕ) (y : Seen) → (y.marked ≡ true → y.stands ≡ true) → DoMarkedStand rows → DoMarkedStand (numbered_set rows x y)
stand-set rows x y up all z e = stand-at rows x z (all z) e
  where
    stand-at : (rows : List Seen) (x z : ℕ) → ((row_at rows z).marked ≡ true → (row_at rows z).stands ≡ true)
        → (row_at (numbered_set rows x y) z).marked ≡ true → (row_at (numbered_set rows x y) z).stands ≡ true
    stand-at rows zero z h e = h e
    stand-at [] (suc i) z h e = h e
    stand-at (r ∷ rows) (suc zero) zero h e = h e
    stand-at (r ∷ rows) (suc zero) (suc zero) h e = up e
    stand-at (r ∷ rows) (suc zero) (suc (suc k)) h e = h e
    stand-at (r ∷ rows) (suc (suc i)) zero h e = h e
    stand-at (r ∷ rows) (suc (suc i)) (suc zero) h e = h e
    stand-at (r ∷ rows) (suc (suc i)) (suc (suc k)) h e = stand-at rows (suc i) (suc k) h e

pub stand-push : (rows : List Seen) (y : Seen) → y.stands ≡ true → DoMarkedStand rows → DoMarkedStand (rows ++ y ∷ [])
stand-push rows y up all z e = stand-at rows z (all z) e
  where
    stand-at : (rows : List Seen) (z : ℕ) → ((row_at rows z).marked ≡ true → (row_at rows z).stands ≡ true) → (row_at (rows ++ y ∷ []) z).marked ≡ true → (row_at (rows ++ y ∷ []) z).stands ≡ true
    stand-at rows zero h e = h e
    stand-at [] (suc zero) h e = up
    stand-at [] (suc (suc i)) h e = h e
    stand-at (r ∷ rows) (suc zero) h e = h e
    stand-at (r ∷ rows) (suc (suc i)) h e = stand-at rows (suc i) h e

pub stand-down : (rows : List Seen) → DoMarkedStand (map unmarked_row rows)
stand-down rows z e = absurd (unmarked-none rows z (row-marked (map unmarked_row rows) z e))

-- the rows as they are after a change
pub AreRows-as : (s : Slab Row) (places : List RowPlace) (marks : List Bool) (links : List ℕ) (rows : List Seen) → IsIndex s places → length marks ≡ length places
    → length links ≡ length places → with_marks (map (seen_at s) places) marks links ≡ rows → DoMarkedStand rows → AreRows s places marks links
AreRows-as s places marks links rows index em el view up = record { index = index; marks_len = em; links_len = el; up = subst DoMarkedStand (sym view) up }

pub greyed-row : (y : ℕ) (marks : List Bool) (links : List ℕ) (h : ℕ) → 1 ≤ y → y ≤ length marks → length links ≡ length marks → get_or marks (y - 1) false ≡ false
    → Greyed (λ z. z ≡ y) (false ∷ marks) (0 ∷ links) h (false ∷ set marks (y - 1) true) (0 ∷ set links (y - 1) h) y
greyed-row y marks links h one le el down =
    let i : ℕ = y - 1 in
    let e : suc i ≡ y = omega arith in
    subst (λ n. Greyed (λ z. z ≡ n) (false ∷ marks) (0 ∷ links) h (false ∷ set marks i true) (0 ∷ set links i h) n) e
    (Greyed-new (suc i) (false ∷ marks) (0 ∷ links) h (read-mark marks i false (omega arith) down) (omega arith) (omega (arith, el)))

pub greyed-seen : (y : ℕ) (marks : List Bool) (links : List ℕ) (h : ℕ) → 1 ≤ y → y ≤ length marks
    → get_or marks (y - 1) false ≡ true → Greyed (λ z. z ≡ y) (false ∷ marks) links h (false ∷ marks) links h
greyed-seen y marks links h one le there waited c =
    let i : ℕ = y - 1 in
    let e : suc i ≡ y = omega arith in
    record { waits = waited; chained = c; scans = Scans-seen y (false ∷ marks) waited (subst (HasMark (false ∷ marks)) e (read-mark marks i true (omega arith) there)); anew = λ k w. inl w }

pub raises-row : (y : ℕ) (marks : List Bool) → 1 ≤ y → y ≤ length marks → Raises (λ z. z ≡ y) (false ∷ marks) (false ∷ set marks (y - 1) true)
raises-row y marks one le =
    let i : ℕ = y - 1 in
    let e : suc i ≡ y = omega arith in
    record {
      kept = λ k m. set-keeps (false ∷ marks) (suc i) k m;
      done = λ k w. subst (HasMark (false ∷ set marks i true)) (e ∙ sym w) (set-marked (false ∷ marks) (suc i) (omega arith));
    }

pub raises-seen : (y : ℕ) (marks : List Bool) → 1 ≤ y → y ≤ length marks → get_or marks (y - 1) false ≡ true → Raises (λ z. z ≡ y) (false ∷ marks) (false ∷ marks)
raises-seen y marks one le there =
    let i : ℕ = y - 1 in
    let e : suc i ≡ y = omega arith in
    record { kept = λ k m. m; done = λ k w. subst (HasMark (false ∷ marks)) (e ∙ sym w) (read-mark marks i true (omega arith) there) }

-- the rows of fields are marked by the lists, and all of them stand
pub stand-visited : (base rows : List Seen) (marks others : List Bool) (links after : List ℕ) (fields : List (Option ℕ)) → with_marks base marks links ≡ rows → length others ≡ length base
    → ((k : ℕ) → HasMark (false ∷ others) k → HasMark (false ∷ marks) k ⊎ Contains fields (Some k)) → length marks ≡ length base
    → ((y : ℕ) → Contains fields (Some y) → (row_at rows y).stands ≡ true) → DoMarkedStand rows → DoMarkedStand (with_marks base others after)
stand-visited base rows marks others links after fields view len fresh em held up z e =
    let stands : (r : Seen) (m : Bool) (l : ℕ) → (record r { marked = m; link = l }).stands ≡ r.stands = λ r m l. refl in
    let mark : HasMark (false ∷ others) z = subst (λ (ms : List Bool). HasMark (false ∷ ms) z) (marks-with base others after len) (row-marked (with_marks base others after) z e) in
    let old : (row_at rows z).stands ≡ true = elim (fresh z mark) [
      | inl w ↦ up z (marked-row rows z (subst (λ (ms : List Bool). HasMark (false ∷ ms) z) (sym (ap (map (λ (r : Seen). r.marked)) (sym view) ∙ marks-with base marks links em)) w))
      | inr w ↦ held z w
    ] in
    row_at-under (λ r. r.stands) (λ r m l. refl) base others after z
    ∙ (sym (row_at-under (λ r. r.stands) (λ r m l. refl) base marks links z) ∙ (ap (λ (l : List Seen). (row_at l z).stands) view ∙ old))

pub greyed-rows : (row : ℕ → Type 0) (base rows : List Seen) (marks others written : List Bool) (links after put : List ℕ) (h i : ℕ) → with_marks base marks links ≡ rows
    → written ≡ others → put ≡ after → length marks ≡ length base → length links ≡ length base → length others ≡ length base → length after ≡ length base
    → Greyed row (false ∷ marks) (0 ∷ links) h (false ∷ others) (0 ∷ after) i
    → Greyed row (marks_in rows) (links_in rows) h (marks_in (with_marks base written put)) (links_in (with_marks base written put)) i
greyed-rows row base rows marks others written links after put h i view is set_links em el om ol y =
    let new : List Seen = with_marks base written put in
    let next : with_marks base others after ≡ new = ap (λ ms. with_marks base ms after) (sym is) ∙ ap (λ ls. with_marks base written ls) (sym set_links) in
    subst (λ (ms : List Bool). Greyed row (false ∷ ms) (links_in rows) h (marks_in new) (links_in new) i) (sym (ap (map (λ (r : Seen). r.marked)) (sym view) ∙ marks-with base marks links em))
    (subst (λ (ls : List ℕ). Greyed row (false ∷ marks) (0 ∷ ls) h (marks_in new) (links_in new) i) (sym (ap (map (λ (r : Seen). r.link)) (sym view) ∙ links-with base marks links el))
    (subst (λ (ms : List Bool). Greyed row (false ∷ marks) (0 ∷ links) h (false ∷ ms) (links_in new) i) (sym (ap (map (λ (r : Seen). r.marked)) (sym next) ∙ marks-with base others after om))
    (subst (λ (ls : List ℕ). Greyed row (false ∷ marks) (0 ∷ links) h (false ∷ others) (0 ∷ ls) i) (sym (ap (map (λ (r : Seen). r.link)) (sym next) ∙ links-with base others after ol)) y)))

pub marks-rows : (p : List Bool → List Bool → Type 0) (base rows : List Seen) (marks others written : List Bool) (links put : List ℕ)
    → with_marks base marks links ≡ rows → written ≡ others → length marks ≡ length base → length others ≡ length base → p (false ∷ marks) (false ∷ others)
    → p (marks_in rows) (marks_in (with_marks base written put))
marks-rows p base rows marks others written links put view is em om y =
    subst (λ (ms : List Bool). p (false ∷ ms) (marks_in (with_marks base written put))) (sym (ap (map (λ (r : Seen). r.marked)) (sym view) ∙ marks-with base marks links em))
    (subst (λ (ms : List Bool). p (false ∷ marks) (false ∷ ms)) (sym (marks-with base written put (ap length is ∙ om) ∙ is)) y)

-- a further field is done
pub fresh-push : (fields : List (Option ℕ)) (f : Option ℕ) (a b c : List Bool) → ((k : ℕ) → HasMark b k → HasMark a k ⊎ Contains fields (Some k))
    → ((k : ℕ) → HasMark c k → HasMark b k ⊎ (f ≡ Some k)) → (k : ℕ) → HasMark c k → HasMark a k ⊎ Contains (fields ++ f ∷ []) (Some k)
fresh-push fields f a b c old new k m = elim (new k m) [
  | inl w ↦ elim (old k w) [ inl v ↦ inl v | inr v ↦ inr (Contains-append_left fields (f ∷ []) (Some k) v) ]
  | inr w ↦ inr (subst (Contains (fields ++ f ∷ [])) w (Contains-push fields f))
]

pub greyed-push : (fields : List (Option ℕ)) (f : Option ℕ) (a : List Bool) (k : List ℕ) (h : ℕ) (b : List Bool) (l : List ℕ) (i : ℕ) (c : List Bool) (n : List ℕ) (j : ℕ)
    → Greyed (λ z. Contains fields (Some z)) a k h b l i → Greyed (λ z. f ≡ Some z) b l i c n j → Greyed (λ z. Contains (fields ++ f ∷ []) (Some z)) a k h c n j
greyed-push fields f a k h b l i c n j v w = Greyed-then (λ z. Contains fields (Some z)) (λ z. f ≡ Some z) (λ z. Contains (fields ++ f ∷ []) (Some z)) a k h b l i c n j
    (λ z r. Contains-push_cases fields f (Some z) r)
    (λ z g. Contains-append_left fields (f ∷ []) (Some z) g)
    (λ z e. subst (Contains (fields ++ f ∷ [])) e (Contains-push fields f)) v w

-- the rows of the index, from those with marks
pub len-under : (s : Slab Row) (places : List RowPlace) (rows : List Seen) (marks : List Bool) (links : List ℕ) → with_marks (map (seen_at s) places) marks links ≡ rows → length rows ≡ length places
len-under s places rows marks links view = sym (ap length view) ∙ (length-with_marks (map (seen_at s) places) marks links ∙ length-map places (seen_at s))

pub index-under : (s : Slab Row) (places : List RowPlace) (rows : List Seen) (marks : List Bool) (links : List ℕ) (x : ℕ)
    → with_marks (map (seen_at s) places) marks links ≡ rows → (row_at rows x).stands ≡ true → x - 1 < length places
index-under s places rows marks links x view up = (let w = stands-within rows x up in omega (arith, w.0, w.1, len-under s places rows marks links view))

pub up-under : (base rows : List Seen) (marks : List Bool) (links : List ℕ) (x : ℕ) → with_marks base marks links ≡ rows → (row_at rows x).stands ≡ true → (row_at base x).stands ≡ true
up-under base rows marks links x view up = sym (row_at-under (λ r. r.stands) (λ r m l. refl) base marks links x) ∙ (ap (λ (l : List Seen). (row_at l x).stands) view ∙ up)

-- the row under one key is written
pub changed-rows : (g : Seen → Seen) → ((r : Seen) (m : Bool) (l : ℕ) → g (record r { marked = m; link = l }) ≡ record (g r) { marked = m; link = l })
    → (s : Slab Row) (places : List RowPlace) (rows : List Seen) (marks : List Bool) (links : List ℕ) (x : ℕ) (r : RowPlace) (key : ℕ) (old new : Row)
    → with_marks (map (seen_at s) places) marks links ≡ rows → IsIndex s places → (row_at (map (seen_at s) places) x).stands ≡ true
    → r ≡ At key → r ≡ get_or places (x - 1) r → get s key ≡ Some old → standing new ≡ g (standing old)
    → with_marks (map (seen_at (with_value s key new)) places) marks links ≡ numbered_set rows x (g (row_at rows x))
changed-rows g apart s places rows marks links x r key old new view index up is e got same =
    let base = map (seen_at s) places in
    shown-changed g apart base (map (seen_at (with_value s key new)) places) rows marks links x view
    (rows-written s places base x r key new (g (row_at base x)) refl up is e index (same ∙ ap g (sym (row-of s places base x r key old refl up is e got))))

pub changed-are : (g : Seen → Seen) → ((r : Seen) (m : Bool) (l : ℕ) → g (record r { marked = m; link = l }) ≡ record (g r) { marked = m; link = l })
    → ((r : Seen) → (g r).stands ≡ r.stands) → (s : Slab Row) (places : List RowPlace) (rows : List Seen) (marks : List Bool) (links : List ℕ) (x : ℕ) (r : RowPlace) (key : ℕ) (old new : Row)
    → with_marks (map (seen_at s) places) marks links ≡ rows → AreRows s places marks links → (row_at (map (seen_at s) places) x).stands ≡ true
    → r ≡ At key → r ≡ get_or places (x - 1) r → get s key ≡ Some old → standing new ≡ g (standing old)
    → AreRows (with_value s key new) places marks links
changed-are g apart stays s places rows marks links x r key old new view a up is e got same =
    let base = map (seen_at s) places in
    AreRows-as (with_value s key new) places marks links (numbered_set rows x (g (row_at rows x))) (index-written s places base x r key new refl up is e a.index) a.marks_len a.links_len
    (changed-rows g apart s places rows marks links x r key old new view a.index up is e got same)
    (stand-set rows x (g (row_at rows x)) (λ m. stays (row_at rows x)
    ∙ (sym (ap (λ (l : List Seen). (row_at l x).stands) view) ∙ (row_at-under (λ q. q.stands) (λ q n l. refl) base marks links x ∙ up))) (subst DoMarkedStand view a.up))

-- a row is removed
pub freed-rows : (s t : Slab Row) (places : List RowPlace) (rows : List Seen) (marks : List Bool) (links : List ℕ) (x : ℕ) (kept : Snapshot Fields)
    → with_marks (map (seen_at s) places) marks links ≡ rows → AreRows s places marks links → (row_at rows x).stands ≡ true → KeepsOthers s t places (x - 1) → kept.value ≡ (row_at rows x).fields
    → with_marks (map (seen_at t) (set places (x - 1) (Gone kept))) (set marks (x - 1) false) (set links (x - 1) 0) ≡ numbered_set rows x (gone (row_at rows x).fields)
freed-rows s t places rows marks links x kept view a up same had =
    let base = map (seen_at s) places in
    let len : length base ≡ length places = length-map places (seen_at s) in
    let one = (stands-within rows x up).0 in
    shown-set base (map (seen_at t) (set places (x - 1) (Gone kept))) rows marks links x (gone kept.value) false 0 view (a.marks_len ∙ sym len) (a.links_len ∙ sym len) one
    (shown-freed s t places base x kept refl one same)
    ∙ ap (λ fs. numbered_set rows x (gone fs)) had

pub freed-are : (s t : Slab Row) (places : List RowPlace) (rows : List Seen) (marks : List Bool) (links : List ℕ) (x : ℕ) (kept : Snapshot Fields)
    → with_marks (map (seen_at s) places) marks links ≡ rows → AreRows s places marks links → (row_at rows x).stands ≡ true → KeepsOthers s t places (x - 1) → kept.value ≡ (row_at rows x).fields
    → AreRows t (set places (x - 1) (Gone kept)) (set marks (x - 1) false) (set links (x - 1) 0)
freed-are s t places rows marks links x kept view a up same had =
    let len : length (set places (x - 1) (Gone kept)) ≡ length places = length-set places (x - 1) (Gone kept) in
    AreRows-as t (set places (x - 1) (Gone kept)) (set marks (x - 1) false) (set links (x - 1) 0)
    (numbered_set rows x (gone (row_at rows x).fields)) (IsIndex-freed s t places (x - 1) kept a.index same)
    (length-set marks (x - 1) false ∙ (a.marks_len ∙ sym len)) (length-set links (x - 1) 0 ∙ (a.links_len ∙ sym len))
    (freed-rows s t places rows marks links x kept view a up same had) (stand-set rows x (gone (row_at rows x).fields) (λ m. (let f : ⊥ = cc in absurd f)) (subst DoMarkedStand view a.up))

-- a mark and a link, and the rest of a row, at its number
pub bare-under : (s : Slab Row) (places : List RowPlace) (rows : List Seen) (marks : List Bool) (links : List ℕ) (x : ℕ)
    → with_marks (map (seen_at s) places) marks links ≡ rows → bare (row_at rows x) ≡ row_at (map (seen_at s) places) x
bare-under s places rows marks links x view = ap (λ (l : List Seen). bare (row_at l x)) (sym view) ∙ (row_at-under bare (λ r m l. refl) (map (seen_at s) places) marks links x ∙ bare-base places x)
  where
    bare-place : (p : RowPlace) → bare (seen_at s p) ≡ seen_at s p
    bare-place (Gone kept) = refl
    bare-place Leaf = refl
    bare-place (At key) = by_slot (get s key)
      where
        by_slot : (o : Option Row) → (let z : Seen = elim o [ None ↦ gone [] | Some r ↦ standing r ] in bare z) ≡ elim o [ None ↦ gone [] | Some r ↦ standing r ]
        by_slot None = refl
        by_slot (Some r) = refl

    bare-base : (ps : List RowPlace) (x : ℕ) → bare (row_at (map (seen_at s) ps) x) ≡ row_at (map (seen_at s) ps) x
    bare-base ps zero = refl
    bare-base [] (suc i) = refl
    bare-base (p ∷ ps) (suc zero) = bare-place p
    bare-base (p ∷ ps) (suc (suc i)) = bare-base ps (suc i)

pub mark-under : (s : Slab Row) (places : List RowPlace) (rows : List Seen) (marks : List Bool) (links : List ℕ) (x : ℕ) (d : Bool)
    → with_marks (map (seen_at s) places) marks links ≡ rows → 1 ≤ x → x ≤ length rows → length marks ≡ length places → (row_at rows x).marked ≡ get_or marks (x - 1) d
mark-under s places rows marks links x d view one le em =
    sym (ap (λ (l : List Seen). (row_at l x).marked) view) ∙ mark-at (map (seen_at s) places) marks links x one
    (omega (arith, le, em, len-under s places rows marks links view)) (em ∙ sym (length-map places (seen_at s)))
  where
    at : (base : List Seen) (ms : List Bool) (ls : List ℕ) (i : ℕ) → i < length ms → length ms ≡ length base → (row_at (with_marks base ms ls) (suc i)).marked ≡ get_or ms i d
    at base [] ls i lt e = absurd (omega arith)
    at [] (m ∷ ms) ls i lt e = absurd (omega (arith, e))
    at (r ∷ base) (m ∷ ms) ls zero lt e = refl
    at (r ∷ base) (m ∷ ms) ls (suc i) lt e = at base ms (drop 1 ls) i (omega arith) (omega (arith, e))

    mark-at : (base : List Seen) (ms : List Bool) (ls : List ℕ) (y : ℕ) → 1 ≤ y → y ≤ length ms → length ms ≡ length base → (row_at (with_marks base ms ls) y).marked ≡ get_or ms (y - 1) d
    mark-at base ms ls zero o l e = absurd (omega arith)
    mark-at base ms ls (suc i) o l e = (let same : suc i - 1 ≡ i = omega arith in rw same (at base ms ls i (omega arith) e))

pub link-under : (s : Slab Row) (places : List RowPlace) (rows : List Seen) (marks : List Bool) (links : List ℕ) (x : ℕ) (d : ℕ)
    → with_marks (map (seen_at s) places) marks links ≡ rows → 1 ≤ x → x ≤ length rows → length links ≡ length places → (row_at rows x).link ≡ get_or links (x - 1) d
link-under s places rows marks links x d view one le el =
    sym (ap (λ (l : List Seen). (row_at l x).link) view) ∙ link-at (map (seen_at s) places) marks links x one
    (omega (arith, le, el, len-under s places rows marks links view)) (el ∙ sym (length-map places (seen_at s)))
  where
    at : (base : List Seen) (ms : List Bool) (ls : List ℕ) (i : ℕ) → i < length ls → length ls ≡ length base → (row_at (with_marks base ms ls) (suc i)).link ≡ get_or ls i d
    at base ms [] i lt e = absurd (omega arith)
    at [] ms (l ∷ ls) i lt e = absurd (omega (arith, e))
    at (r ∷ base) ms (l ∷ ls) zero lt e = refl
    at (r ∷ base) ms (l ∷ ls) (suc i) lt e = at base (drop 1 ms) ls i (omega arith) (omega (arith, e))

    link-at : (base : List Seen) (ms : List Bool) (ls : List ℕ) (y : ℕ) → 1 ≤ y → y ≤ length ls → length ls ≡ length base → (row_at (with_marks base ms ls) y).link ≡ get_or ls (y - 1) d
    link-at base ms ls zero o l e = absurd (omega arith)
    link-at base ms ls (suc i) o l e = (let same : suc i - 1 ≡ i = omega arith in rw same (at base ms ls i (omega arith) e))

-- a row is marked, and all marks are taken down
pub marked-rows : (s : Slab Row) (places : List RowPlace) (rows : List Seen) (marks : List Bool) (links : List ℕ) (x l : ℕ)
    → with_marks (map (seen_at s) places) marks links ≡ rows → AreRows s places marks links → (row_at rows x).stands ≡ true
    → with_marks (map (seen_at s) places) (set marks (x - 1) true) (set links (x - 1) l) ≡ numbered_set rows x (record (row_at rows x) { marked = true; link = l })
marked-rows s places rows marks links x l view a up =
    let w = stands-within rows x up in
    let len : length (map (seen_at s) places) ≡ length places = length-map places (seen_at s) in
    shown-marked (map (seen_at s) places) rows marks links x l view (a.marks_len ∙ sym len) (a.links_len ∙ sym len) w.0 (omega (arith, w.1, len, len-under s places rows marks links view))

pub marked-are : (s : Slab Row) (places : List RowPlace) (rows : List Seen) (marks : List Bool) (links : List ℕ) (x l : ℕ)
    → with_marks (map (seen_at s) places) marks links ≡ rows → AreRows s places marks links → (row_at rows x).stands ≡ true
    → AreRows s places (set marks (x - 1) true) (set links (x - 1) l)
marked-are s places rows marks links x l view a up =
    AreRows-as s places (set marks (x - 1) true) (set links (x - 1) l) (numbered_set rows x (record (row_at rows x) { marked = true; link = l })) a.index
    (length-set marks (x - 1) true ∙ a.marks_len) (length-set links (x - 1) l ∙ a.links_len)
    (marked-rows s places rows marks links x l view a up) (stand-set rows x (record (row_at rows x) { marked = true; link = l }) (λ m. up) (subst DoMarkedStand view a.up))

pub unmarked-rows : (s : Slab Row) (places : List RowPlace) (rows : List Seen) (marks others : List Bool) (links : List ℕ)
    → with_marks (map (seen_at s) places) marks links ≡ rows → others ≡ replicate (length marks) false
    → with_marks (map (seen_at s) places) others links ≡ map unmarked_row rows
unmarked-rows s places rows marks others links view is =
    ap (λ ms. with_marks (map (seen_at s) places) ms links) is ∙ (with_marks-down (map (seen_at s) places) (length marks) marks links ∙ ap (map unmarked_row) view)

pub visited-are : (s : Slab Row) (places : List RowPlace) (rows : List Seen) (marks others : List Bool) (links after : List ℕ) (fields : List (Option ℕ))
    → with_marks (map (seen_at s) places) marks links ≡ rows → AreRows s places marks links → length others ≡ length marks → length after ≡ length links
    → ((k : ℕ) → HasMark (false ∷ others) k → HasMark (false ∷ marks) k ⊎ Contains fields (Some k))
    → ((y : ℕ) → Contains fields (Some y) → (row_at rows y).stands ≡ true) → AreRows s places others after
visited-are s places rows marks others links after fields view a em el fresh held =
    let len : length (map (seen_at s) places) ≡ length places = length-map places (seen_at s) in
    record {
      index = a.index;
      marks_len = em ∙ a.marks_len;
      links_len = el ∙ a.links_len;
      up = stand-visited (map (seen_at s) places) rows marks others links after fields view (em ∙ (a.marks_len ∙ sym len)) fresh (a.marks_len ∙ sym len) held (subst DoMarkedStand view a.up);
    }

-- a place that was read, and its row without its mark and its link
pub place-under : (s : Slab Row) (places : List RowPlace) (rows : List Seen) (marks : List Bool) (links : List ℕ) (x : ℕ) (r p : RowPlace)
    → with_marks (map (seen_at s) places) marks links ≡ rows → (1 ≤ x) × (x ≤ length rows) → r ≡ p → r ≡ get_or places (x - 1) r
    → (slice_get places (x - 1) ≡ Some p) × (bare (row_at rows x) ≡ seen_at s p)
place-under s places rows marks links x r p view w is e =
    let base = map (seen_at s) places in
    let le : x ≤ length base = omega (arith, w.1, len-under s places rows marks links view, length-map places (seen_at s)) in
    (read-place s places base x r p refl w.0 le is e, bare-under s places rows marks links x view ∙ read-row s places base x r p refl w.0 le is e)

-- a row that stands has its key in the slab, if it has one, and is not gone
pub key-under : (s : Slab Row) (places : List RowPlace) (rows : List Seen) (marks : List Bool) (links : List ℕ) (x : ℕ) (r : RowPlace) (key : ℕ)
    → with_marks (map (seen_at s) places) marks links ≡ rows → IsIndex s places → (row_at rows x).stands ≡ true → r ≡ At key → r ≡ get_or places (x - 1) r → is_some (get s key) ≡ true
key-under s places rows marks links x r key view index up is e = key-there s places (x - 1) key index (place-under s places rows marks links x r (At key) view (stands-within rows x up) is e).0

pub not-gone : (s : Slab Row) (places : List RowPlace) (rows : List Seen) (marks : List Bool) (links : List ℕ) (x : ℕ) (r : RowPlace) (kept : Snapshot Fields)
    → with_marks (map (seen_at s) places) marks links ≡ rows → (row_at rows x).stands ≡ true → r ≡ Gone kept → r ≡ get_or places (x - 1) r → ⊥
not-gone s places rows marks links x r kept view up is e = stands-gone kept s (bare (row_at rows x)) (place-under s places rows marks links x r (Gone kept) view (stands-within rows x up) is e).1 up

-- its fields
pub fields-under : (s : Slab Row) (places : List RowPlace) (rows : List Seen) (marks : List Bool) (links : List ℕ) (x : ℕ) (r : RowPlace) (key : ℕ) (row : Row)
    → with_marks (map (seen_at s) places) marks links ≡ rows → (row_at rows x).stands ≡ true → r ≡ At key → r ≡ get_or places (x - 1) r → get s key ≡ Some row
    → (row_at rows x).fields ≡ row.fields
fields-under s places rows marks links x r key row view up is e got =
    ap (λ z. z.fields) ((place-under s places rows marks links x r (At key) view (stands-within rows x up) is e).1 ∙ seen-row s key row got)

-- one that the slab doesn't have has none
pub leaf-under : (s : Slab Row) (places : List RowPlace) (rows : List Seen) (marks : List Bool) (links : List ℕ) (x : ℕ) (r : RowPlace)
    → with_marks (map (seen_at s) places) marks links ≡ rows → (row_at rows x).stands ≡ true → r ≡ Leaf → r ≡ get_or places (x - 1) r
    → (row_at rows x).fields ≡ []
leaf-under s places rows marks links x r view up is e = ap (λ z. z.fields) (place-under s places rows marks links x r Leaf view (stands-within rows x up) is e).1

-- a further one comes
pub leaf-rows : (s : Slab Row) (places : List RowPlace) (rows : List Seen) (marks : List Bool) (links : List ℕ)
    → with_marks (map (seen_at s) places) marks links ≡ rows → AreRows s places marks links
    → with_marks (map (seen_at s) (places ++ Leaf ∷ [])) (marks ++ true ∷ []) (links ++ 0 ∷ []) ≡ rows ++ record leaf { marked = true; link = 0 } ∷ []
leaf-rows s places rows marks links view a =
    let base = map (seen_at s) places in
    let len : length base ≡ length places = length-map places (seen_at s) in
    ap (λ b. with_marks b (marks ++ true ∷ []) (links ++ 0 ∷ [])) (map-append (seen_at s) places (Leaf ∷ []))
    ∙ (with_marks-push base marks links leaf true 0 (a.marks_len ∙ sym len) (a.links_len ∙ sym len) ∙ ap (λ z. z ++ record leaf { marked = true; link = 0 } ∷ []) view)

pub leaf-are : (s : Slab Row) (places : List RowPlace) (marks : List Bool) (links : List ℕ) → AreRows s places marks links → AreRows s (places ++ Leaf ∷ []) (marks ++ true ∷ []) (links ++ 0 ∷ [])
leaf-are s places marks links a =
    let rows : List Seen = with_marks (map (seen_at s) places) marks links in
    let new : Seen = record leaf { marked = true; link = 0 } in
    AreRows-as s (places ++ Leaf ∷ []) (marks ++ true ∷ []) (links ++ 0 ∷ []) (rows ++ new ∷ []) (IsIndex-leaf s places a.index)
    (omega (arith, a.marks_len, length-append marks (true ∷ []), length-append places (Leaf ∷ []))) (omega (arith, a.links_len, length-append links (0 ∷ []), length-append places (Leaf ∷ [])))
    (leaf-rows s places rows marks links refl a) (stand-push rows new refl a.up)

-- more room, and a further row
pub grown-are : (s t : Slab Row) (places : List RowPlace) (marks : List Bool) (links : List ℕ) → t.slots ≡ s.slots → AreRows s places marks links → AreRows t places marks links
grown-are s t places marks links e a =
    AreRows-as t places marks links (with_marks (map (seen_at s) places) marks links)
    (IsIndex-grown s t places e a.index) a.marks_len a.links_len (ap (λ b. with_marks b marks links) (shown-grown s t places e)) a.up

-- the rows of lists that hold the same
pub kept-rows : (s t : Slab Row) (places more : List RowPlace) (marks ups : List Bool) (links ends : List ℕ) → t.slots ≡ s.slots
    → more ≡ places → ups ≡ marks → ends ≡ links → with_marks (map (seen_at t) more) ups ends ≡ with_marks (map (seen_at s) places) marks links
kept-rows s t places more marks ups links ends e p m l = rw (p, m, l) (ap (λ b. with_marks b marks links) (shown-grown s t places e))

pub kept-are : (s t : Slab Row) (places more : List RowPlace) (marks ups : List Bool) (links ends : List ℕ)
    → t.slots ≡ s.slots → more ≡ places → ups ≡ marks → ends ≡ links → AreRows s places marks links → AreRows t more ups ends
kept-are s t places more marks ups links ends e p m l a = rw (p, m, l) (grown-are s t places marks links e a)

pub pushed-rows : (s t : Slab Row) (places : List RowPlace) (rows : List Seen) (marks : List Bool) (links : List ℕ) (key : ℕ) (r : Row)
    → with_marks (map (seen_at s) places) marks links ≡ rows → AreRows s places marks links → get s key ≡ None → Updates s t key (Some r)
    → with_marks (map (seen_at t) (places ++ At key ∷ [])) (marks ++ true ∷ []) (links ++ 0 ∷ []) ≡ rows ++ record (standing r) { marked = true; link = 0 } ∷ []
pushed-rows s t places rows marks links key r view a vacant u =
    let base = map (seen_at s) places in
    let len : length base ≡ length places = length-map places (seen_at s) in
    ap (λ b. with_marks b (marks ++ true ∷ []) (links ++ 0 ∷ [])) (shown-pushed s t places base key r a.index refl vacant u)
    ∙ (with_marks-push base marks links (standing r) true 0 (a.marks_len ∙ sym len) (a.links_len ∙ sym len) ∙ ap (λ z. z ++ record (standing r) { marked = true; link = 0 } ∷ []) view)

pub pushed-are : (s t : Slab Row) (places : List RowPlace) (marks : List Bool) (links : List ℕ) (key : ℕ) (r : Row) → AreRows s places marks links
    → get s key ≡ None → Updates s t key (Some r) → AreRows t (places ++ At key ∷ []) (marks ++ true ∷ []) (links ++ 0 ∷ [])
pushed-are s t places marks links key r a vacant u =
    let rows : List Seen = with_marks (map (seen_at s) places) marks links in
    let new : Seen = record (standing r) { marked = true; link = 0 } in
    AreRows-as t (places ++ At key ∷ []) (marks ++ true ∷ []) (links ++ 0 ∷ []) (rows ++ new ∷ []) (IsIndex-pushed s t places key r a.index vacant u)
    (omega (arith, a.marks_len, length-append marks (true ∷ []), length-append places (At key ∷ []))) (omega (arith, a.links_len, length-append links (0 ∷ []), length-append places (At key ∷ [])))
    (pushed-rows s t places rows marks links key r refl a vacant u) (stand-push rows new refl a.up)
