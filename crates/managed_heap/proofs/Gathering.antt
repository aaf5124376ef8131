-- What a snapshot's walks gather: slots as a list of roots, rows that pass a test, and rows that are brought back one
-- after another.
use Rattle.std.proofs.Common.{◌≡◌, ℕ, ◌+◌, ◌<◌, ◌↔◌, ◌⊎◌, inl, inr, Bool, true, false, List, [], ◌∷◌, ◌++◌, length, take, get_or, Option, Some, None, refl, sym, subst}
use Rattle.std.specs.Prelude.{Contains, filter}
use Rattle.std.proofs.lemmas.List.{append-nil, take_more}
use Rattle.std.proofs.lemmas.List.Elements.{filter-append, Contains-append_cases, Contains-append_left, Contains-append_right}
use Rattle.joint_machine.specs.declared.names.MNum.{MNum}
use Rattle.joint_machine.specs.Heaps.{Heap, HasField, InSlot, IsLive}
use Rattle.joint_machine.proofs.WalkLemmas.{Reached-mono}
use Rattle.row_marking.specs.Traces.{Greyed, Greying}
use Rattle.row_marking.proofs.Greys.{Greyed-then, Greying-begins}
use Rattle.joint_machine.specs.Histories.{managed_numbers}
use Rattle.joint_machine.specs.Walks.{Reached}
use Rattle.joint_machine.proofs.Deciding.{none_some, some-same}
use Rattle.joint_machine.proofs.Members.{Contains-filter_from, Contains-nil, Contains-here, Contains-there, Contains-cons_cases}
use Rattle.reachability.specs.Marks.{HasMark}
use Rattle.row_heap.specs.Marks.{AreWhite, EdgeOf}
use Rattle.row_heap.specs.Rows.{HeapRows}
use Rattle.managed_heap.proofs.BringingBack.{marks-either}
use Rattle.managed_heap.proofs.Forgetting.{numbers-more}
use Rattle.managed_heap.proofs.Resolutions.{edge-field}

-- what slots name, as a list
abbrev pub named : List (Option ℕ) → List ℕ
named [] = []
named (None ∷ xs) = named xs
named (Some x ∷ xs) = x ∷ named xs

pub named-exact : (xs : List (Option ℕ)) (x : ℕ) → Contains (named xs) x ↔ Contains xs (Some x)
named-exact [] x = (λ c. absurd (Contains-nil x c), λ c. absurd (Contains-nil (Some x) c))
named-exact (None ∷ xs) x = (
  λ c. Contains-there (Some x) None xs ((named-exact xs x).0 c),
  λ c. elim (Contains-cons_cases None xs (Some x) c) [ inl e ↦ absurd (none_some x e) | inr d ↦ (named-exact xs x).1 d ],
)
named-exact (Some y ∷ xs) x = (
  λ c. elim (Contains-cons_cases y (named xs) x c) [
    | inl e ↦ subst (λ z. Contains (Some y ∷ xs) (Some z)) e (Contains-here (Some y) xs)
    | inr d ↦ Contains-there (Some x) (Some y) xs ((named-exact xs x).0 d)
  ],
  λ c. elim (Contains-cons_cases (Some y) xs (Some x) c) [
    | inl e ↦ subst (λ z. Contains (y ∷ named xs) z) (some-same y x e) (Contains-here y (named xs))
    | inr d ↦ Contains-there x y (named xs) ((named-exact xs x).1 d)
  ],
)

-- slots and pins as a list of roots
abbrev pub roots_of : Heap → List (Option ℕ) → List ℕ
roots_of h pins = named (h.vars ++ (h.statics ++ pins))

pub roots-exact : (h : Heap) (pins : List (Option ℕ)) (x : ℕ) → Contains (roots_of h pins) x ↔ (InSlot h x ⊎ Contains pins (Some x))
roots-exact h pins x = (
  λ c. elim (Contains-append_cases h.vars (h.statics ++ pins) (Some x) ((named-exact (h.vars ++ (h.statics ++ pins)) x).0 c)) [
    | inl v ↦ inl (inl v)
    | inr r ↦ elim (Contains-append_cases h.statics pins (Some x) r) [ inl s ↦ inl (inr s) | inr p ↦ inr p ]
  ],
  λ c. (named-exact (h.vars ++ (h.statics ++ pins)) x).1 (elim c [
    | inl i ↦ elim i [
      | inl v ↦ Contains-append_left h.vars (h.statics ++ pins) (Some x) v
      | inr s ↦ Contains-append_right h.vars (h.statics ++ pins) (Some x) (Contains-append_left h.statics pins (Some x) s)
    ]
    | inr p ↦ Contains-append_right h.vars (h.statics ++ pins) (Some x) (Contains-append_right h.statics pins (Some x) p)
  ]),
)

-- one row more passes the test, and is put
pub filter-push : (p : ℕ → Bool) (ms : List MNum) (xs ys : List ℕ) (i : ℕ) (d : MNum) → i < length ms → xs ≡ filter p (managed_numbers (take i ms))
    → p (get_or ms i d).0 ≡ true → ys ≡ xs ++ (get_or ms i d).0 ∷ [] → ys ≡ filter p (managed_numbers (take (i + 1) ms))
filter-push p ms xs ys i d l e t is = rw (numbers-more ms i d l, filter-append p (managed_numbers (take i ms)) ((get_or ms i d).0 ∷ []), t, is, e) refl

-- one row more doesn't pass
pub filter-skip : (p : ℕ → Bool) (ms : List MNum) (xs : List ℕ) (i : ℕ) (d : MNum) → i < length ms
    → xs ≡ filter p (managed_numbers (take i ms)) → p (get_or ms i d).0 ≡ false → xs ≡ filter p (managed_numbers (take (i + 1) ms))
filter-skip p ms xs i d l e t = rw (numbers-more ms i d l, filter-append p (managed_numbers (take i ms)) ((get_or ms i d).0 ∷ []), t, e) (sym (append-nil (filter p (managed_numbers (take i ms)))))

-- one row more is brought back
pub back-next : (v w u : HeapRows) (ms : List ℕ) (i : ℕ) (d : ℕ) → i < length ms → w ≡ record v { marks = w.marks; links = w.links }
    → ((k : ℕ) → HasMark w.marks k ↔ (HasMark v.marks k ⊎ Reached (Contains (take i ms)) (EdgeOf v) k))
    → ((k : ℕ) → HasMark u.marks k ↔ (HasMark w.marks k ⊎ Reached (Contains (get_or ms i d ∷ [])) (EdgeOf w) k))
    → (k : ℕ) → HasMark u.marks k ↔ (HasMark v.marks k ⊎ Reached (Contains (take (i + 1) ms)) (EdgeOf v) k)
back-next v w u ms i d l e f g =
    marks-either v.marks w.marks u.marks (Contains (take i ms)) (Contains (get_or ms i d ∷ [])) (Contains (take (i + 1) ms)) (EdgeOf v)
    (λ z. subst (λ (xs : List ℕ). Contains xs z ↔ (Contains (take i ms) z ⊎ Contains (get_or ms i d ∷ []) z)) (sym (take_more ms i d l)) (
      λ c. Contains-append_cases (take i ms) (get_or ms i d ∷ []) z c,
      elim [ inl a ↦ Contains-append_left (take i ms) (get_or ms i d ∷ []) z a | inr b ↦ Contains-append_right (take i ms) (get_or ms i d ∷ []) z b ],
    )) f
    (subst (λ (t : HeapRows). (k : ℕ) → HasMark u.marks k ↔ (HasMark w.marks k ⊎ Reached (Contains (get_or ms i d ∷ [])) (EdgeOf t) k)) e g)

pub back-none : (v : HeapRows) (k : ℕ) → HasMark v.marks k ↔ (HasMark v.marks k ⊎ Reached (Contains []) (EdgeOf v) k)
back-none v k = (λ m. inl m, elim [ inl m ↦ m | inr r ↦ absurd (Contains-nil r.root r.starts) ])

-- slots and pins were marked, so the marking is on its way from them
pub slots-greying : (v b s p : HeapRows) (pins : List (Option ℕ)) (g k : ℕ) → b.heap ≡ v.heap → ((x : ℕ) → HasMark b.marks x → ⊥) → Greyed (InSlot b.heap) b.marks b.links 0 s.marks s.links g
    → Greyed (λ z. Contains pins (Some z)) s.marks s.links g p.marks p.links k → Greying (roots_of v.heap pins) (EdgeOf p) b.marks p.marks p.links k
slots-greying v b s p pins g k e none slots held =
    Greying-begins (roots_of v.heap pins) (EdgeOf p) b.marks b.links p.marks p.links k (λ x y f m. absurd (none x m))
    (Greyed-then (InSlot v.heap) (λ z. Contains pins (Some z)) (Contains (roots_of v.heap pins)) b.marks b.links 0 s.marks s.links g p.marks p.links k
    (λ x r. (roots-exact v.heap pins x).0 r) (λ x i. (roots-exact v.heap pins x).1 (inl i)) (λ x i. (roots-exact v.heap pins x).1 (inr i))
    (subst (λ (h : Heap). Greyed (InSlot h) b.marks b.links 0 s.marks s.links g) e slots) held)

-- what is marked at its end is what they reach
pub slots-marked : (v w : HeapRows) (before after : List Bool) (pins : List (Option ℕ)) → w.heap ≡ v.heap → w.follows ≡ false → ((x : ℕ) → HasMark before x → ⊥)
    → ((x : ℕ) → HasMark after x ↔ (HasMark before x ⊎ Reached (Contains (roots_of v.heap pins)) (EdgeOf w) x))
    → (x : ℕ) → HasMark after x ↔ Reached (λ z. InSlot v.heap z ⊎ Contains pins (Some z)) (HasField v.heap) x
slots-marked v w before after pins e plain none marks x = (
  λ m. elim ((marks x).0 m) [
    | inl o ↦ absurd (none x o)
    | inr r ↦ Reached-mono (Contains (roots_of v.heap pins)) (λ z. InSlot v.heap z ⊎ Contains pins (Some z)) (EdgeOf w) (HasField v.heap)
        (λ y c. (roots-exact v.heap pins y).0 c) (λ y z f. subst (λ (h : Heap). HasField h y z) e (edge-field w y z plain f)) x r
  ],
  λ r. (marks x).1 (inr (Reached-mono (λ z. InSlot v.heap z ⊎ Contains pins (Some z)) (Contains (roots_of v.heap pins)) (HasField v.heap)
      (EdgeOf w) (λ y c. (roots-exact v.heap pins y).1 c) (λ y z f. inl (subst (λ (h : Heap). HasField h y z) (sym e) f)) x r)),
)

-- what is picked of the white rows is live
pub picked-live : (v : HeapRows) (white picked : List ℕ) (test : ℕ → Bool) (m : ℕ) → AreWhite v white → picked ≡ filter test white → Contains picked m → IsLive v.heap m
picked-live v white picked test m a is c = ((a.exact m).0 (Contains-filter_from test white m (subst (λ (xs : List ℕ). Contains xs m) is c)).0).0
