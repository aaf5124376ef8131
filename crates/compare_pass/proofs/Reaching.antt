-- Over a list of edges it is decided whether one node reaches another, by an induction on the list: with a further edge
-- a node reaches what it reached before, and, if it reached the edge's source, what the edge's target reached before.
-- The edges of a part are such a list.
use Rattle.std.proofs.Common.{◌≡◌, ℕ, zero, suc, ◌+◌, ◌<◌, ◌⊎◌, inl, inr, List, [], ◌∷◌, ◌++◌, length, map, refl, sym, subst, ap, arith}
use Rattle.std.specs.Prelude.{Contains}
use Rattle.std.proofs.lemmas.Bool.{cases_eq, cases_lt}
use Rattle.std.proofs.lemmas.List.{get_or_past}
use Rattle.std.proofs.lemmas.List.Elements.{Contains-append_left, Contains-append_right, Contains-append_cases}
use Rattle.joint_machine.specs.Walks.{Reaches}
use Rattle.joint_machine.proofs.WalkLemmas.{Reaches-self, Reaches-then, Reaches-trans, Reaches-keeps, Reaches-mono}
use Rattle.joint_machine.proofs.Members.{Contains-nil, Contains-here, Contains-there, Contains-cons_cases, Contains-map, Contains-map_cases}
use Rattle.bridge_graph.specs.Parts.{NodeLeads, row_at}

-- one node leads to another over an edge of the list
abbrev Listed : List (ℕ × ℕ) → ℕ → ℕ → Type 0
Listed edges x y = Contains edges (x, y)

-- over no edge a node reaches itself alone
reach_none : (x y : ℕ) → Reaches (Listed []) x y → x ≡ y
reach_none x y r = Reaches-keeps (Listed []) (λ v. x ≡ v) (λ u v e q. absurd (Contains-nil (u, v) e)) x y r refl

reach_more : (e : ℕ × ℕ) (es : List (ℕ × ℕ)) (x y : ℕ) → Reaches (Listed es) x y → Reaches (Listed (e ∷ es)) x y
reach_more e es x y r = Reaches-mono (Listed es) (Listed (e ∷ es)) (λ u v c. Contains-there (u, v) e es c) x y r

-- by the old edges, or over the new one
abbrev ByOne : ℕ × ℕ → List (ℕ × ℕ) → ℕ → ℕ → Type 0
ByOne e es x y = Reaches (Listed es) x y ⊎ (Reaches (Listed es) x e.0 × Reaches (Listed es) e.1 y)

by_one : (e : ℕ × ℕ) (es : List (ℕ × ℕ)) (x y : ℕ) → Reaches (Listed (e ∷ es)) x y → ByOne e es x y
by_one e es x y r = Reaches-keeps (Listed (e ∷ es)) (ByOne e es x) step x y r (inl (Reaches-self (Listed es) x))
  where
    to_source : (u v : ℕ) → e ≡ (u, v) → ByOne e es x u → Reaches (Listed es) x e.0
    to_source u v p q = elim q [
      | inl t ↦ subst (λ w. Reaches (Listed es) x w) (sym (ap (λ (w : ℕ × ℕ). w.0) p)) t
      | inr t ↦ t.0
    ]

    step : (u v : ℕ) → Listed (e ∷ es) u v → ByOne e es x u → ByOne e es x v
    step u v c q = elim (Contains-cons_cases e es (u, v) c) [
      | inl p ↦ inr (to_source u v p q, subst (λ w. Reaches (Listed es) e.1 w) (ap (λ (w : ℕ × ℕ). w.1) p) (Reaches-self (Listed es) e.1))
      | inr d ↦ elim q [
        | inl t ↦ inl (Reaches-then (Listed es) x u v t d)
        | inr t ↦ inr (t.0, Reaches-then (Listed es) e.1 u v t.1 d)
      ]
    ]

reach_decided : (es : List (ℕ × ℕ)) (x y : ℕ) → Reaches (Listed es) x y ⊎ (Reaches (Listed es) x y → ⊥)
reach_decided [] x y = elim (cases_eq x y) [
  | inl e ↦ inl (subst (λ w. Reaches (Listed []) x w) e (Reaches-self (Listed []) x))
  | inr n ↦ inr (λ r. n (reach_none x y r))
]
reach_decided (e ∷ es) x y = elim (reach_decided es x y) [
  | inl r ↦ inl (reach_more e es x y r)
  | inr n ↦ elim (reach_decided es x e.0) [
    | inr m ↦ inr (λ r. elim (by_one e es x y r) [ inl t ↦ n t | inr t ↦ m t.0 ])
    | inl a ↦ elim (reach_decided es e.1 y) [
      | inr m ↦ inr (λ r. elim (by_one e es x y r) [ inl t ↦ n t | inr t ↦ m t.1 ])
      | inl b ↦ inl (Reaches-trans (Listed (e ∷ es)) x e.1 y (Reaches-then (Listed (e ∷ es)) x e.0 e.1 (reach_more e es x e.0 a) (Contains-here e es)) (reach_more e es e.1 y b))
    ]
  ]
]

-- the edges of the rows from the node n on, one after the other
pairs_from : ℕ → List (List ℕ) → List (ℕ × ℕ)
pairs_from n [] = []
pairs_from n (row ∷ rows) = map (λ y. (n, y)) row ++ pairs_from (suc n) rows

pair-in : (n k : ℕ) (rows : List (List ℕ)) (y : ℕ) → Contains (row_at rows k) y → Contains (pairs_from n rows) (k + n, y)
unfolding pairs_from
pair-in n k [] y c = absurd (Contains-nil y c)
pair-in n zero (row ∷ rows) y c =
    let at : n ≡ zero + n = omega arith in
    subst (λ m. Contains (map (λ y. (n, y)) row ++ pairs_from (suc n) rows) (m, y)) at
    (Contains-append_left (map (λ (y : ℕ). (n, y)) row) (pairs_from (suc n) rows) (n, y) (Contains-map (λ (y : ℕ). (n, y)) row y c))
pair-in n (suc k) (row ∷ rows) y c =
    let next : k + suc n ≡ suc k + n = omega arith in
    Contains-append_right (map (λ (y : ℕ). (n, y)) row) (pairs_from (suc n) rows) (suc k + n, y)
    (subst (λ m. Contains (pairs_from (suc n) rows) (m, y)) next (pair-in (suc n) k rows y c))

pair-from : (n : ℕ) (rows : List (List ℕ)) (x y : ℕ) → Contains (pairs_from n rows) (x, y) → (k : ℕ) × (x ≡ k + n) × Contains (row_at rows k) y
unfolding pairs_from
pair-from n [] x y c = absurd (Contains-nil (x, y) c)
pair-from n (row ∷ rows) x y c = elim (Contains-append_cases (map (λ (y : ℕ). (n, y)) row) (pairs_from (suc n) rows) (x, y) c) [
  | inl d ↦ (
      let m = Contains-map_cases (λ (y : ℕ). (n, y)) row (x, y) d in
      let at : n ≡ x = ap (λ (p : ℕ × ℕ). p.0) m.2 in
      (0, omega (arith, at), subst (λ z. Contains row z) (ap (λ (p : ℕ × ℕ). p.1) m.2) m.1))
  | inr d ↦ (let r = pair-from (suc n) rows x y d in (suc r.0, omega (arith, r.1), r.2))
]

-- whether one node of a part reaches another
pub reaches-decided : (edges : List (List ℕ)) (x y : ℕ) → Reaches (NodeLeads edges) x y ⊎ (Reaches (NodeLeads edges) x y → ⊥)
reaches-decided edges x y = elim (reach_decided (pairs_from 0 edges) x y) [
  | inl r ↦ inl (Reaches-mono (Listed (pairs_from 0 edges)) (NodeLeads edges) from x y r)
  | inr n ↦ inr (λ r. n (Reaches-mono (NodeLeads edges) (Listed (pairs_from 0 edges)) to x y r))
]
  where
    from : (u v : ℕ) → Listed (pairs_from 0 edges) u v → NodeLeads edges u v
    from u v c = (
        let r = pair-from 0 edges u v c in
        let same : r.0 ≡ u = omega (arith, r.1) in
        subst (λ k. Contains (row_at edges k) v) same r.2)

    to : (u v : ℕ) → NodeLeads edges u v → Listed (pairs_from 0 edges) u v
    to u v c = (
        let same : u + 0 ≡ u = omega arith in
        subst (λ k. Contains (pairs_from 0 edges) (k, v)) same (pair-in 0 u edges v c))

-- an edge begins at a node
pub leads_from : (edges : List (List ℕ)) (x y : ℕ) → NodeLeads edges x y → x < length edges
leads_from edges x y l =
    elim (cases_lt x (length edges)) [
      | inl lt ↦ lt
      | inr ge ↦ let u = subst (λ (r : List ℕ). Contains r y) (get_or_past edges x [] ge) l in absurd (omega (arith, u.1))
    ]
