-- What strong handles name, gathered one handle after another, and the roots of a marking, which are grey at its begin.
use Rattle.std.proofs.Common.{◌≡◌, ℕ, zero, suc, ◌+◌, ◌≤◌, ◌⊎◌, inl, inr, Bool, true, List, [], ◌∷◌, ◌++◌, length, take, Option, Some, refl, sym, ap, subst, ◌∙◌, arith, length-append, append_assoc}
use Rattle.std.specs.Option.{option_map}
use Rattle.std.specs.Prelude.{Contains, slice_get}
use Rattle.std.proofs.lemmas.List.Elements.{Contains-append_cases, Contains-append_left, Contains-append_right}
use Rattle.std.proofs.lemmas.Option.{none-some, same_Some}
use Rattle.joint_machine.specs.Heaps.{Heap, InSlot, numbered_at}
use Rattle.joint_machine.specs.PeerReplay.{TableRow}
use Rattle.joint_machine.proofs.Members.{Contains-cons_cases, Contains-here, Contains-nil, take-next}
use Rattle.joint_machine.proofs.Numbered.{numbered-push_old, numbered-push_new}
use Rattle.global_handles.specs.declared.HandleRow.{HandleRow}
use Rattle.global_handles.specs.declared.Strength.{Strength}
use Rattle.global_handles.specs.declared.Strength.TheVariants.{Strong, Weak}
use Rattle.global_handles.specs.Rows.{row_in}
use Rattle.reachability.specs.Marks.{HasMark}
use Rattle.row_heap.specs.Rows.{HeapRows}
use Rattle.row_marking.specs.Traces.{Greyed}
use Rattle.row_marking.proofs.Greys.{Greyed-as, Greyed-none, Greyed-then}
use Rattle.peer_heap.specs.Marking.{AreRootsGrey, IsRoot, strong_in, strong_on}
use Rattle.peer_heap.specs.Rows.{row_as, table_to}

-- the row of a number, as the replay has it
abbrev pub seen_in : List HandleRow → ℕ → Option TableRow
seen_in rows n = option_map row_as (row_in rows record { 0 = n })

pub table_to-count : (rows : List HandleRow) (n : ℕ) → length (table_to rows n) ≡ n
table_to-count rows zero = refl
table_to-count rows (suc n) = length-append (table_to rows n) (seen_in rows (suc n) ∷ []) ∙ omega (arith, table_to-count rows n)

-- a strong handle up to any number is one of the table
pub numbered-table : (rows : List HandleRow) (n k : ℕ) → 1 ≤ k → k ≤ n → numbered_at (table_to rows n) k ≡ Some (seen_in rows k)
numbered-table rows zero k one le = absurd (omega (arith, one, le))
numbered-table rows (suc n) k one le = elim (last-or n k le) [
  | inl l ↦ numbered-push_old (table_to rows n) (seen_in rows (suc n)) k (omega (arith, l, table_to-count rows n)) ∙ numbered-table rows n k one l
  | inr e ↦
      let at : k ≡ length (table_to rows n) + 1 = omega (arith, e, table_to-count rows n) in
      ap (λ z. numbered_at (table_to rows n ++ seen_in rows (suc n) ∷ []) z) at ∙ (numbered-push_new (table_to rows n) (seen_in rows (suc n)) ∙ ap (λ z. Some (seen_in rows z)) (sym e))
]
  where
    last-or : (n k : ℕ) → k ≤ suc n → (k ≤ n) ⊎ (k ≡ suc n)
    last-or n zero l = inl (omega arith)
    last-or zero (suc zero) l = inr refl
    last-or zero (suc (suc k)) l = absurd (omega (arith, l))
    last-or (suc n) (suc k) l = elim (last-or n k (omega (arith, l))) [ inl w ↦ inl (omega (arith, w)) | inr w ↦ inr (ap suc w) ]

-- the peers of strong rows, row by row
pub strong_in-append : (xs ys : List HandleRow) → strong_in (xs ++ ys) ≡ strong_in xs ++ strong_in ys
strong_in-append [] ys = refl
strong_in-append (r ∷ xs) ys = ap (λ l. strong_on r.strength r.peer.0 ++ l) (strong_in-append xs ys) ∙ sym (append_assoc (strong_on r.strength r.peer.0) (strong_in xs) (strong_in ys))

-- one row more is done
pub Greyed-row : (rows : List HandleRow) (i : ℕ) (r : HandleRow) (a : List Bool) (k : List ℕ) (h : ℕ) (b : List Bool) (l : List ℕ) (j : ℕ) (c : List Bool) (n : List ℕ) (m : ℕ)
    → slice_get rows i ≡ Some r
    → Greyed (Contains (strong_in (take i rows))) a k h b l j → Greyed (Contains (strong_in (r ∷ []))) b l j c n m → Greyed (Contains (strong_in (take (i + 1) rows))) a k h c n m
Greyed-row rows i r a k h b l j c n m at v w =
    let before = strong_in (take i rows) in
    let here = strong_in (r ∷ []) in
    let more : strong_in (take (i + 1) rows) ≡ before ++ here = ap strong_in (take-next rows i r at) ∙ strong_in-append (take i rows) (r ∷ []) in
    subst (λ z. Greyed (Contains z) a k h c n m) (sym more) (Greyed-then (Contains before) (Contains here) (Contains (before ++ here)) a k h b l j c n m
    (λ x d. Contains-append_cases before here x d) (λ x d. Contains-append_left before here x d) (λ x d. Contains-append_right before here x d) v w)

-- what one row adds
pub Greyed-one : (r : HandleRow) (a : List Bool) (k : List ℕ) (h : ℕ) (b : List Bool) (l : List ℕ) (i : ℕ)
    → r.strength ≡ Strong → Greyed (λ z. z ≡ r.peer.0) a k h b l i → Greyed (Contains (strong_in (r ∷ []))) a k h b l i
Greyed-one r a k h b l i e g =
    let is : strong_in (r ∷ []) ≡ r.peer.0 ∷ [] = ap (λ s. strong_on s r.peer.0 ++ []) e in
    subst (λ ps. Greyed (Contains ps) a k h b l i) (sym is) (Greyed-as (λ z. z ≡ r.peer.0) (Contains (r.peer.0 ∷ [])) a k h b l i
    (λ x c. elim (Contains-cons_cases r.peer.0 [] x c) [ inl s ↦ sym s | inr n ↦ absurd (Contains-nil x n) ]) (λ x s. subst (Contains (r.peer.0 ∷ [])) (sym s) (Contains-here r.peer.0 [])) g)

pub Greyed-weak : (r : HandleRow) (a : List Bool) (k : List ℕ) (h : ℕ) → r.strength ≡ Weak → Greyed (Contains (strong_in (r ∷ []))) a k h a k h
Greyed-weak r a k h e =
    let is : strong_in (r ∷ []) ≡ [] = ap (λ s. strong_on s r.peer.0 ++ []) e in
    subst (λ ps. Greyed (Contains ps) a k h a k h) (sym is) (Greyed-none (Contains []) a k h (λ x c. absurd (Contains-nil x c)))

pub strong_in-none : (rows : List HandleRow) → strong_in (take 0 rows) ≡ []
strong_in-none [] = refl
strong_in-none (r ∷ rows) = refl

pub Greyed-begins : (rows : List HandleRow) (a : List Bool) (k : List ℕ) (h : ℕ) → Greyed (Contains (strong_in (take 0 rows))) a k h a k h
Greyed-begins rows a k h = subst (λ ps. Greyed (Contains ps) a k h a k h) (sym (strong_in-none rows)) (Greyed-none (Contains []) a k h (λ x c. absurd (Contains-nil x c)))

-- a strong row is on each of them, and each strong row's peer is one
pub strong-of : (rows : List HandleRow) (p : ℕ) → Contains (strong_in rows) p → (k : ℕ) × (r : HandleRow) × (slice_get rows k ≡ Some r) × (r.strength ≡ Strong) × (r.peer.0 ≡ p)
strong-of [] p c = absurd (Contains-nil p c)
strong-of (r ∷ rows) p c = elim (Contains-append_cases (strong_on r.strength r.peer.0) (strong_in rows) p c) [
  | inl w ↦ by r.strength refl w
  | inr w ↦ (let f = strong-of rows p w in (suc f.0, f.1, f.2, f.3, f.4))
]
  where
    by : (x : Strength) → r.strength ≡ x → Contains (strong_on x r.peer.0) p → (k : ℕ) × (q : HandleRow) × (slice_get (r ∷ rows) k ≡ Some q) × (q.strength ≡ Strong) × (q.peer.0 ≡ p)
    by Strong e w = elim (Contains-cons_cases r.peer.0 [] p w) [ inl s ↦ (0, r, refl, e, s) | inr n ↦ absurd (Contains-nil p n) ]
    by Weak e w = absurd (Contains-nil p w)

pub strong-in : (rows : List HandleRow) (k : ℕ) (r : HandleRow) → slice_get rows k ≡ Some r → r.strength ≡ Strong → Contains (strong_in rows) r.peer.0
strong-in [] k r at e = absurd (none-some r at)
strong-in (x ∷ rows) zero r at e =
    let here : x ≡ r = same_Some x r at in
    Contains-append_left (strong_on x.strength x.peer.0) (strong_in rows) r.peer.0
    (subst (λ (q : HandleRow). Contains (strong_on q.strength q.peer.0) r.peer.0) (sym here) (subst (λ z. Contains (strong_on z r.peer.0) r.peer.0) (sym e) (Contains-here r.peer.0 [])))
strong-in (x ∷ rows) (suc k) r at e = Contains-append_right (strong_on x.strength x.peer.0) (strong_in rows) r.peer.0 (strong-in rows k r at e)

-- once slots and strong handles are visited, just these have marks, and all of them are grey
pub begins-grey : (h : Heap) (named : List ℕ) (a : List Bool) (k : List ℕ) (b : List Bool) (l : List ℕ) (i : ℕ) (c : List Bool) (n : List ℕ) (j : ℕ) → ((x : ℕ) → HasMark a x → ⊥)
    → Greyed (InSlot h) a k 0 b l i → Greyed (Contains named) b l i c n j → AreRootsGrey (IsRoot h named) c n j
begins-grey h named a k b l i c n j none slots handles =
    let all = Greyed-then (InSlot h) (Contains named) (IsRoot h named) a k 0 b l i c n j (λ x r. r) (λ x r. inl r) (λ x r. inr r) slots handles in
    let g = all [] record { chain = refl; marked = λ x w. absurd (Contains-nil x w) } in
    let fresh : (x : ℕ) → HasMark c x → IsRoot h named x × Contains g.waits x = λ x u. elim (g.scans.fresh x u) [ inl w ↦ absurd (none x w) | inr w ↦ w ] in
    record {
      greys = g.waits;
      chained = g.chained;
      marked = λ x. ((λ u. (fresh x u).0), (λ r. g.scans.done x r));
      grey = λ x. ((λ w. g.chained.marked x w), (λ u. (fresh x u).1));
    }

-- roots that are the same are grey as well
pub roots-as : (p q : ℕ → Type 0) (m : List Bool) (l : List ℕ) (h : ℕ) → ((x : ℕ) → p x → q x) → ((x : ℕ) → q x → p x) → AreRootsGrey p m l h → AreRootsGrey q m l h
roots-as p q m l h to back g = record { greys = g.greys; chained = g.chained; marked = λ x. ((λ u. to x ((g.marked x).0 u)), (λ r. (g.marked x).1 (back x r))); grey = g.grey }

pub named-roots : (h : Heap) (ps qs : List ℕ) (m : List Bool) (l : List ℕ) (k : ℕ) → ((x : ℕ) → Contains ps x → Contains qs x)
    → ((x : ℕ) → Contains qs x → Contains ps x) → AreRootsGrey (IsRoot h ps) m l k → AreRootsGrey (IsRoot h qs) m l k
named-roots h ps qs m l k to back g = roots-as (IsRoot h ps) (IsRoot h qs) m l k (λ x r. turned ps qs to x r) (λ x r. turned qs ps back x r) g
  where
    turned : (xs ys : List ℕ) → ((x : ℕ) → Contains xs x → Contains ys x) → (x : ℕ) → IsRoot h xs x → IsRoot h ys x
    turned xs ys f x r = elim r [ inl i ↦ inl i | inr c ↦ inr (f x c) ]

-- what the calls of a begin leave of the rows
pub rest-begun : (v a b c : HeapRows) → a ≡ record v { follows = true; marks = a.marks } → b ≡ record a { marks = b.marks; links = b.links }
    → c ≡ record b { marks = c.marks; links = c.links } → c ≡ record v { follows = true; marks = c.marks; links = c.links }
rest-begun v a b c p q r = r ∙ ap (λ (w : HeapRows). record w { marks = c.marks; links = c.links }) (q ∙ ap (λ (w : HeapRows). record w { marks = b.marks; links = b.links }) p)
