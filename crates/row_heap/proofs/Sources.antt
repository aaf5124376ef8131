-- Each row with references is a source just once: at the place of its last reference. So where the places have had
-- their turn one after another, what the sources below a place lead to is marked.
use Rattle.std.proofs.Common.{◌≡◌, ℕ, ◌+◌, ◌-◌, ◌≤◌, ◌⊎◌, inl, inr, true, Bool, List, length, Some, refl, sym, ap, subst, ◌∙◌, arith}
use Rattle.std.specs.Prelude.{slice_get}
use Rattle.std.proofs.lemmas.Bool.{cases_lt}
use Rattle.std.proofs.lemmas.Option.{slice_get_within}
use Rattle.joint_machine.specs.Components.{End, node}
use Rattle.joint_machine.specs.PeerReplay.{Refers}
use Rattle.joint_machine.proofs.Members.{at-Contains}
use Rattle.row_marking.specs.Traces.{Greyed}
use Rattle.row_marking.proofs.Greys.{Greyed-as, Greyed-none, Greyed-then}
use Rattle.row_heap.specs.Ends.{IsLastBelow}
use Rattle.row_heap.specs.Places.{Seen, row_at}
use Rattle.row_heap.specs.Rows.{IsLedFrom, IsLedTo}
use Rattle.row_heap.proofs.Linked.{pair-from}
use Rattle.row_heap.proofs.Sound.{refers-from}

-- an end has one last reference
pub last-one : (refs : List (End × End)) (e : End) (n r k : ℕ) → IsLastBelow refs e n r → IsLastBelow refs e n k → r ≡ k
last-one refs e n r k a b = elim (cases_lt r k) [
  | inl less ↦ absurd (above r k a b (omega (arith, less)))
  | inr le ↦ elim (cases_lt k r) [ inl less ↦ absurd (above k r b a (omega (arith, less))) | inr more ↦ omega (arith, le, more) ]
]
  where
    above : (i j : ℕ) → IsLastBelow refs e n i → IsLastBelow refs e n j → i + 1 ≤ j → ⊥
    above i j v w less = (let at = w.there (omega (arith, less)) in v.none (j - 1) at.0 (omega (arith, less)) (omega (arith, less, w.below)) at.1)

-- what the rows lead to whose last reference stands at one of the first n places
abbrev pub IsLedBelow : List (End × End) → List Seen → ℕ → ℕ → Type 0
IsLedBelow refs rows n q = (p : ℕ) × (r : ℕ) × (1 ≤ r) × (r ≤ n) × IsLastBelow refs (node p) (length refs) r × ((row_at rows p).stands ≡ true) × Refers refs p q

pub sources-begin : (refs : List (End × End)) (seen : List Seen) (m : List Bool) (l : List ℕ) (h : ℕ) → Greyed (IsLedBelow refs seen 0) m l h m l h
sources-begin refs seen m l h = Greyed-none (IsLedBelow refs seen 0) m l h (λ q w. omega (arith, w.2, w.3))

-- one more place has its turn
pub sources-go : (refs : List (End × End)) (rows : List Seen) (i : ℕ) (e f : End) (m : List Bool) (l : List ℕ) (h : ℕ)
    (m' : List Bool) (l' : List ℕ) (h' : ℕ) (m'' : List Bool) (l'' : List ℕ) (h'' : ℕ) → slice_get refs i ≡ Some (e, f)
    → Greyed (IsLedBelow refs rows i) m l h m' l' h' → Greyed (IsLedFrom refs rows e (i + 1)) m' l' h' m'' l'' h'' → Greyed (IsLedBelow refs rows (i + 1)) m l h m'' l'' h''
sources-go refs rows i e f m l h m' l' h' m'' l'' h'' at one two = Greyed-then (IsLedBelow refs rows i) (IsLedFrom refs rows e (i + 1)) (IsLedBelow refs rows (i + 1)) m l h m' l' h' m'' l'' h'' split
    (λ q w. (w.0, w.1, w.2, omega (arith, w.3), w.4, w.5, w.6))
    (λ q w. (w.0, i + 1, omega arith, omega arith, w.2, w.3, w.4)) one two
  where
    split : (q : ℕ) → IsLedBelow refs rows (i + 1) q → IsLedBelow refs rows i q ⊎ IsLedFrom refs rows e (i + 1) q
    split q (p, r, some, le, last, up, w) = elim (cases_lt i r) [
      | inr less ↦ inl (p, r, some, less, last, up, w)
      | inl more ↦
          let same : r ≡ i + 1 = omega (arith, le, more) in
          let there = last.there some in
          let place : r - 1 ≡ i = omega (arith, same) in
          let own : node p ≡ e = pair-from (node p) there.0 e f (sym there.1 ∙ (ap (slice_get refs) place ∙ at)) in
          inr (p, sym own, subst (IsLastBelow refs (node p) (length refs)) same last, up, w)
    ]

-- after the last place all is marked
pub sources-end : (refs : List (End × End)) (rows : List Seen) (n : ℕ) (last : (p : ℕ) → (r : ℕ) × IsLastBelow refs (node p) (length refs) r)
    (m : List Bool) (l : List ℕ) (h : ℕ) (m' : List Bool) (l' : List ℕ) (h' : ℕ) → n ≡ length refs
    → Greyed (IsLedBelow refs rows n) m l h m' l' h' → Greyed (IsLedTo refs rows) m l h m' l' h'
sources-end refs rows n last m l h m' l' h' all y = Greyed-as (IsLedBelow refs rows n) (IsLedTo refs rows) m l h m' l' h' there (λ q w. (w.0, w.5, w.6)) y
  where
    there : (q : ℕ) → IsLedTo refs rows q → IsLedBelow refs rows n q
    there q (p, up, w) =
        let found = refers-from refs p q w in
        let at = at-Contains refs (node p, found.0) found.1 in
        let r = last p in
        let within = slice_get_within refs at.0 (node p, found.0) at.1 in
        let some : 1 ≤ r.0 = elim (cases_lt 0 r.0) [ inl v ↦ v | inr v ↦ absurd (r.1.none at.0 found.0 (omega (arith, v)) within at.1) ] in
        (p, r.0, some, omega (arith, r.1.below, all), r.1, up, w)

-- what one source leads to
pub source-led : (refs : List (End × End)) (rows : List Seen) (x r : ℕ) (m : List Bool) (l : List ℕ) (h : ℕ) (m' : List Bool) (l' : List ℕ) (h' : ℕ)
    → IsLastBelow refs (node x) (length refs) r → (row_at rows x).stands ≡ true → Greyed (Refers refs x) m l h m' l' h'
    → Greyed (IsLedFrom refs rows (node x) r) m l h m' l' h'
source-led refs rows x r m l h m' l' h' last up y = Greyed-as (Refers refs x) (IsLedFrom refs rows (node x) r) m l h m' l' h'
    (λ q w. (let same : x ≡ w.0 = node-one x w.0 w.1 in subst (λ z. Refers refs z q) (sym same) w.4)) (λ q w. (x, refl, last, up, w)) y
  where
    node-one : (a b : ℕ) → node a ≡ node b → a ≡ b
    node-one a b e = cc

-- nothing, where the row isn't one
pub source-none : (refs : List (End × End)) (rows : List Seen) (x r : ℕ) (m : List Bool) (l : List ℕ) (h : ℕ)
    → (IsLastBelow refs (node x) (length refs) r → (row_at rows x).stands ≡ true → ⊥) → Greyed (IsLedFrom refs rows (node x) r) m l h m l h
source-none refs rows x r m l h none = Greyed-none (IsLedFrom refs rows (node x) r) m l h
    (λ q w. (let same : w.0 ≡ x = node-one w.0 x (sym w.1) in none (subst (λ z. IsLastBelow refs (node z) (length refs) r) same w.2) (subst (λ z. (row_at rows z).stands ≡ true) same w.3)))
  where
    node-one : (a b : ℕ) → node a ≡ node b → a ≡ b
    node-one a b e = cc
