-- The steps of a search keep that each finished node is served, or is in one class with a frame.
use Rattle.std.proofs.Common.{◌≡◌, ℕ, ◌+◌, ◌<◌, ◌≤◌, ◌⊎◌, inl, inr, List, [], ◌∷◌, ◌++◌, length, slice_get, Some, refl, sym, ◌∙◌, subst, arith}
use Rattle.std.specs.Prelude.{Contains}
use Rattle.std.proofs.lemmas.Bool.{cases_lt}
use Rattle.std.proofs.lemmas.List.Elements.{All-contains, All-cons, All-nil, Contains-append_left, Contains-push, Contains-push_cases}
use Rattle.std.proofs.lemmas.Option.{same_Some, slice_get_within}
use Rattle.joint_machine.specs.Walks.{Reaches, Mutual}
use Rattle.joint_machine.proofs.Members.{Contains-nil, Contains-here, Contains-there, Contains-cons_cases, at-Contains, All-members}
use Rattle.joint_machine.proofs.Numbered.{push-at_old, push-at_new}
use Rattle.joint_machine.proofs.WalkLemmas.{Reaches-self, Reaches-then, Reaches-trans, Reaches-edge, Reaches-keeps, Mutual-self, Mutual-sym, Mutual-trans}
use Rattle.compare_pass.specs.Searches.{StandsBefore, IsServed, IsOpenIn, IsSearching, AreDifferent}

-- whether one node reaches another is decided
abbrev pub Decided : (ℕ → ℕ → Type 0) → Type 0
Decided edge = (x y : ℕ) → Reaches edge x y ⊎ (Reaches edge x y → ⊥)

-- the last node that isn't labelled, where classes are labelled whole
pub record IsLastOpen (edge : ℕ → ℕ → Type 0) (finished : List ℕ) (labelled : ℕ → Type 0) (r k : ℕ) : Type 0 where
  pub there : slice_get finished k ≡ Some r
  pub later : (j x : ℕ) → k < j → slice_get finished j ≡ Some x → labelled x
  pub whole : (x y : ℕ) → labelled x → Mutual edge x y → labelled y

-- places stay where a list gets one more
keeps-at : (xs : List ℕ) (v i x : ℕ) → slice_get xs i ≡ Some x → slice_get (xs ++ v ∷ []) i ≡ Some x
keeps-at xs v i x e = push-at_old xs v i (slice_get_within xs i x e) ∙ e

keeps-before : (xs : List ℕ) (v y z : ℕ) → StandsBefore xs y z → StandsBefore (xs ++ v ∷ []) y z
keeps-before xs v y z b = (b.0, b.1, keeps-at xs v b.0 y b.2, keeps-at xs v b.1 z b.3, b.4)

keeps-served : (edge : ℕ → ℕ → Type 0) (xs : List ℕ) (v x : ℕ) → IsServed edge xs x → IsServed edge (xs ++ v ∷ []) x
keeps-served edge xs v x s = (s.0, s.1, λ y r. keeps-before xs v y s.0 (s.2 y r))

-- what stands in a list with one more stands at or before that one
before-last : (xs : List ℕ) (v y : ℕ) → Contains (xs ++ v ∷ []) y → StandsBefore (xs ++ v ∷ []) y v
before-last xs v y c = let a = at-Contains (xs ++ v ∷ []) y c in
    (a.0, length xs, a.1, push-at_new xs v, (let l = slice_get_within (xs ++ v ∷ []) a.0 y a.1 in within a.0 l))
  where
    size : (ys : List ℕ) → length (ys ++ v ∷ []) ≡ length ys + 1
    size [] = refl
    size (z ∷ ys) = (let e = size ys in omega (arith, e))

    within : (i : ℕ) → i < length (xs ++ v ∷ []) → i ≤ length xs
    within i l = omega (arith, l, size xs)

-- it is decided whether a node is in one class with one of a list
mutual-decided : (edge : ℕ → ℕ → Type 0) → Decided edge → (x y : ℕ) → Mutual edge x y ⊎ (Mutual edge x y → ⊥)
mutual-decided edge d x y = elim (d x y) [
  | inr n ↦ inr (λ m. n m.there)
  | inl r ↦ elim (d y x) [
    | inr n ↦ inr (λ m. n m.back)
    | inl b ↦ inl (record { there = r; back = b })
  ]
]

open-decided : (edge : ℕ → ℕ → Type 0) → Decided edge → (frames : List ℕ) (x : ℕ) → IsOpenIn edge frames x ⊎ ((g : ℕ) → Contains frames g → Mutual edge x g → ⊥)
open-decided edge d [] x = inr (λ g c m. Contains-nil g c)
open-decided edge d (f ∷ frames) x = elim (mutual-decided edge d x f) [
  | inl m ↦ inl (f, Contains-here f frames, m)
  | inr n ↦ elim (open-decided edge d frames x) [
    | inl o ↦ inl (o.0, Contains-there o.0 f frames o.1, o.2)
    | inr k ↦ inr (λ g c m. elim (Contains-cons_cases f frames g c) [ inl e ↦ n (subst (λ z. Mutual edge x z) (sym e) m) | inr c' ↦ k g c' m ])
  ]
]

pub begins : (edge : ℕ → ℕ → Type 0) (finished : List ℕ) (v : ℕ) → IsSearching edge finished [] → IsSearching edge finished (v ∷ [])
begins edge finished v s = record {
  path = (All-nil (λ g. Reaches edge g v), tt);
  closed = λ x y c e. elim (s.closed x y c e) [ inl f ↦ inl f | inr f ↦ absurd (Contains-nil y f) ];
  served = λ x c. elim (s.served x c) [ inl o ↦ absurd (Contains-nil o.0 o.1) | inr k ↦ inr k ];
}

pub deeper : (edge : ℕ → ℕ → Type 0) (finished below : List ℕ) (top v : ℕ) → IsSearching edge finished (top ∷ below) → edge top v → IsSearching edge finished (v ∷ top ∷ below)
deeper edge finished below top v s e = record {
  path = (
    All-cons (λ g. Reaches edge g v) top below (Reaches-edge edge top v e)
        (All-members (λ g. Reaches edge g v) below (λ g c. Reaches-then edge g top v (All-contains (λ h. Reaches edge h top) below g s.path.0 c) e)),
    s.path,
  );
  closed = λ x y c d. elim (s.closed x y c d) [ inl f ↦ inl f | inr f ↦ inr (Contains-there y v (top ∷ below) f) ];
  served = λ x c. elim (s.served x c) [ inl o ↦ inl (o.0, Contains-there o.0 v (top ∷ below) o.1, o.2) | inr k ↦ inr k ];
}

module _ (edge : ℕ → ℕ → Type 0) (finished below : List ℕ) (v : ℕ) (d : Decided edge)
    (s : IsSearching edge finished (v ∷ below)) (done : (y : ℕ) → edge v y → Contains finished y ⊎ Contains (v ∷ below) y) where
  after : List ℕ
  after = finished ++ v ∷ []

  -- an edge of a finished node leads to one, or to a frame below
  into : (y : ℕ) → Contains finished y ⊎ Contains (v ∷ below) y → Contains (finished ++ v ∷ []) y ⊎ Contains below y
  into y c = elim c [
    | inl f ↦ inl (Contains-append_left finished (v ∷ []) y f)
    | inr f ↦ elim (Contains-cons_cases v below y f) [
      | inl e ↦ inl (subst (λ z. Contains (finished ++ v ∷ []) z) e (Contains-push finished v))
      | inr b ↦ inr b
    ]
  ]

  closed_after : (x y : ℕ) → Contains (finished ++ v ∷ []) x → edge x y → Contains (finished ++ v ∷ []) y ⊎ Contains below y
  closed_after x y c e = elim (Contains-push_cases finished v x c) [
    | inl f ↦ into y (s.closed x y f e)
    | inr g ↦ into y (done y (subst (λ z. edge z y) (sym g) e))
  ]

  -- where v is in no class with a frame below, what it reaches is finished
  finished_all : ((g : ℕ) → Contains below g → Mutual edge v g → ⊥) → (y : ℕ) → Reaches edge v y → Contains (finished ++ v ∷ []) y
  finished_all none y r = (Reaches-keeps edge (λ u. Contains (finished ++ v ∷ []) u × Reaches edge v u) step v y r (Contains-push finished v, Reaches-self edge v)).0
    where
      step : (u w : ℕ) → edge u w → Contains (finished ++ v ∷ []) u × Reaches edge v u → Contains (finished ++ v ∷ []) w × Reaches edge v w
      step u w e q = elim (closed_after u w q.0 e) [
        | inl f ↦ (f, Reaches-then edge v u w q.1 e)
        | inr b ↦ absurd (none w b (record { there = Reaches-then edge v u w q.1 e; back = All-contains (λ g. Reaches edge g v) below w s.path.0 b }))
      ]

  alone : ((g : ℕ) → Contains below g → Mutual edge v g → ⊥) → (x : ℕ) → Mutual edge x v → IsServed edge (finished ++ v ∷ []) x
  alone none x m = (v, m, λ y r. before-last finished v y (finished_all none y (Reaches-trans edge v x y m.back r)))

  served_by : IsOpenIn edge below v ⊎ ((g : ℕ) → Contains below g → Mutual edge v g → ⊥) → (x : ℕ) → Mutual edge x v → IsOpenIn edge below x ⊎ IsServed edge (finished ++ v ∷ []) x
  served_by (inl o) x m = inl (o.0, o.1, Mutual-trans edge x v o.0 m o.2)
  served_by (inr n) x m = inr (alone n x m)

  served_after : (x : ℕ) → Contains (finished ++ v ∷ []) x → IsOpenIn edge below x ⊎ IsServed edge (finished ++ v ∷ []) x
  served_after x c = elim (Contains-push_cases finished v x c) [
    | inr g ↦ served_by (open-decided edge d below v) x (subst (λ z. Mutual edge z v) g (Mutual-self edge v))
    | inl f ↦ elim (s.served x f) [
      | inr k ↦ inr (keeps-served edge finished v x k)
      | inl o ↦ elim (Contains-cons_cases v below o.0 o.1) [
        | inr b ↦ inl (o.0, b, o.2)
        | inl e ↦ served_by (open-decided edge d below v) x (subst (λ z. Mutual edge x z) (sym e) o.2)
      ]
    ]
  ]

  pub finishes : IsSearching edge (finished ++ v ∷ []) below
  finishes = record { path = s.path.1; closed = closed_after; served = served_after }

pub roots : (edge : ℕ → ℕ → Type 0) (finished : List ℕ) (labelled : ℕ → Type 0) (r k y : ℕ) → IsSearching edge finished [] → AreDifferent finished → IsLastOpen edge finished labelled r k
    → Contains finished y → (labelled y → ⊥) → Reaches edge y r → Mutual edge y r
roots edge finished labelled r k y s different last c unlabelled reach = elim (s.served y c) [
  | inl o ↦ absurd (Contains-nil o.0 o.1)
  | inr w ↦ by w.0 w.1 (w.2 r reach)
]
  where
    by : (z : ℕ) → Mutual edge y z → StandsBefore finished r z → Mutual edge y r
    by z m b = elim (cases_lt k b.1) [
      | inl l ↦ absurd (unlabelled (last.whole z y (last.later b.1 z l b.3) (Mutual-sym edge y z m)))
      | inr g ↦ (
          let i : b.0 ≡ k = different b.0 k r b.2 last.there in
          let j : b.1 ≡ k = omega (arith, b.4, g, i) in
          let same : z ≡ r = same_Some z r (sym b.3 ∙ subst (λ n. slice_get finished n ≡ Some r) (sym j) last.there) in
          subst (λ n. Mutual edge y n) same m)
    ]
