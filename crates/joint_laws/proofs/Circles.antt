-- The circle of a component leads from each member to each other, and its edges join members alone.
use Rattle.std.proofs.Common.{◌≡◌, ℕ, zero, suc, ◌<◌, ◌⊎◌, inl, inr, List, [], ◌∷◌, length, refl, subst, ap, arith}
use Rattle.std.specs.Prelude.{Contains, All}
use Rattle.std.proofs.lemmas.List.Elements.{All-head, All-tail}
use Rattle.joint_machine.specs.Walks.{Reaches}
use Rattle.joint_machine.specs.Components.{circle, circle_from, first_of, first_at, IsMember}
use Rattle.joint_machine.proofs.WalkLemmas.{Reaches-self, Reaches-edge, Reaches-trans}
use Rattle.joint_machine.proofs.Members.{Contains-nil, Contains-here, Contains-there, Contains-cons_cases}

-- an edge of the circle joins members
from_ends : (first x : ℕ) (ys : List ℕ) (a b : ℕ) → Contains (circle_from first x ys) (a, b) → Contains (x ∷ ys) a × (Contains (x ∷ ys) b ⊎ (first ≡ b))
from_ends first x [] a b c = elim (Contains-cons_cases (x, first) [] (a, b) c) [
  | inl e ↦ (subst (λ z. Contains (x ∷ []) z) (ap (λ (w : ℕ × ℕ). w.0) e) (Contains-here x []), inr (ap (λ (w : ℕ × ℕ). w.1) e))
  | inr d ↦ absurd (Contains-nil (a, b) d)
]
from_ends first x (y ∷ ys) a b c = elim (Contains-cons_cases (x, y) (circle_from first y ys) (a, b) c) [
  | inl e ↦ (
    subst (λ z. Contains (x ∷ y ∷ ys) z) (ap (λ (w : ℕ × ℕ). w.0) e) (Contains-here x (y ∷ ys)),
    inl (Contains-there b x (y ∷ ys) (subst (λ z. Contains (y ∷ ys) z) (ap (λ (w : ℕ × ℕ). w.1) e) (Contains-here y ys))),
  )
  | inr d ↦ let r = from_ends first y ys a b d in (Contains-there a x (y ∷ ys) r.0, elim r.1 [ inl t ↦ inl (Contains-there b x (y ∷ ys) t) | inr t ↦ inr t ])
]

pub circle-ends : (members : List ℕ) (a b : ℕ) → Contains (circle members) (a, b) → Contains members a × Contains members b
circle-ends [] a b c = absurd (Contains-nil (a, b) c)
circle-ends (x ∷ []) a b c = absurd (Contains-nil (a, b) c)
circle-ends (x ∷ y ∷ ys) a b c =
    let r = from_ends x x (y ∷ ys) a b c in
    (r.0, elim r.1 [ inl t ↦ t | inr e ↦ subst (λ z. Contains (x ∷ y ∷ ys) z) e (Contains-here x (y ∷ ys)) ])

-- from a member over those after it, and from the last back to the first
from_forth : (edge : ℕ → ℕ → Type 0) (first x : ℕ) (ys : List ℕ) → ((a b : ℕ) → Contains (circle_from first x ys) (a, b) → edge a b) → (z : ℕ) → Contains (x ∷ ys) z → Reaches edge x z
from_forth edge first x [] in_edge z c = elim (Contains-cons_cases x [] z c) [
  | inl e ↦ subst (λ w. Reaches edge x w) e (Reaches-self edge x)
  | inr d ↦ absurd (Contains-nil z d)
]
from_forth edge first x (y ∷ ys) in_edge z c = elim (Contains-cons_cases x (y ∷ ys) z c) [
  | inl e ↦ subst (λ w. Reaches edge x w) e (Reaches-self edge x)
  | inr d ↦ Reaches-trans edge x y z (Reaches-edge edge x y (in_edge x y (Contains-here (x, y) (circle_from first y ys))))
      (from_forth edge first y ys (λ a b t. in_edge a b (Contains-there (a, b) (x, y) (circle_from first y ys) t)) z d)
]

from_back : (edge : ℕ → ℕ → Type 0) (first x : ℕ) (ys : List ℕ) → ((a b : ℕ) → Contains (circle_from first x ys) (a, b) → edge a b) → (z : ℕ) → Contains (x ∷ ys) z → Reaches edge z first
from_back edge first x [] in_edge z c = elim (Contains-cons_cases x [] z c) [
  | inl e ↦ subst (λ w. Reaches edge w first) e (Reaches-edge edge x first (in_edge x first (Contains-here (x, first) [])))
  | inr d ↦ absurd (Contains-nil z d)
]
from_back edge first x (y ∷ ys) in_edge z c =
    let rest : (a b : ℕ) → Contains (circle_from first y ys) (a, b) → edge a b = λ a b t. in_edge a b (Contains-there (a, b) (x, y) (circle_from first y ys) t) in
    elim (Contains-cons_cases x (y ∷ ys) z c) [
      | inl e ↦ subst (λ w. Reaches edge w first) e (Reaches-trans edge x y first
          (Reaches-edge edge x y (in_edge x y (Contains-here (x, y) (circle_from first y ys)))) (from_back edge first y ys rest y (Contains-here y ys)))
      | inr d ↦ from_back edge first y ys rest z d
    ]

-- each member reaches each other
pub circle-walks : (edge : ℕ → ℕ → Type 0) (members : List ℕ) → ((a b : ℕ) → Contains (circle members) (a, b) → edge a b) → (a b : ℕ) → Contains members a → Contains members b → Reaches edge a b
circle-walks edge [] in_edge a b c d = absurd (Contains-nil a c)
circle-walks edge (x ∷ []) in_edge a b c d = elim (Contains-cons_cases x [] a c) [
  | inr t ↦ absurd (Contains-nil a t)
  | inl e ↦ elim (Contains-cons_cases x [] b d) [
    | inr t ↦ absurd (Contains-nil b t)
    | inl f ↦ subst (λ w. Reaches edge w b) e (subst (λ w. Reaches edge x w) f (Reaches-self edge x))
  ]
]
circle-walks edge (x ∷ y ∷ ys) in_edge a b c d = Reaches-trans edge a x b (from_back edge x x (y ∷ ys) in_edge a c) (from_forth edge x x (y ∷ ys) in_edge b d)

-- the first of some members is one
pub first-member : (members : List ℕ) (a : ℕ) → Contains members a → Contains members (first_of members)
first-member [] a c = absurd (Contains-nil a c)
first-member (x ∷ xs) a c = Contains-here x xs

-- each component has its first member
pub first-there : (comps : List (List ℕ)) (i : ℕ) → All (λ members. 0 < length members) comps → i < length comps → IsMember comps i (first_at comps i)
first-there [] i a l = absurd (omega arith)
first-there ([] ∷ comps) zero a l = absurd (let h : 0 < 0 = All-head (λ members. 0 < length members) [] comps a in omega arith)
first-there ((x ∷ xs) ∷ comps) zero a l = (x ∷ xs, refl, Contains-here x xs)
first-there (c ∷ comps) (suc i) a l = first-there comps i (All-tail (λ members. 0 < length members) c comps a) (omega arith)
