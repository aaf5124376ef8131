-- Over a list of edges it is decided whether one node reaches another, by an induction on the list: with a further edge
-- a node reaches what it reached before, and, if it reached the edge's source, what the edge's target reached before.
use Rattle.std.proofs.Common.{◌≡◌, ◌⊎◌, inl, inr, List, [], ◌∷◌, refl, sym, subst, ap}
use Rattle.std.specs.Prelude.{Contains}
use Rattle.joint_machine.specs.Walks.{Reaches}
use Rattle.joint_machine.proofs.WalkLemmas.{Reaches-self, Reaches-then, Reaches-trans, Reaches-keeps, Reaches-mono}
use Rattle.joint_machine.proofs.Members.{Contains-nil, Contains-here, Contains-there, Contains-cons_cases}

module _ {A : Type 0} (same : (x y : A) → (x ≡ y) ⊎ (x ≡ y → ⊥)) where
  -- one node leads to another over an edge of the list
  abbrev pub Listed : List (A × A) → A → A → Type 0
  Listed edges x y = Contains edges (x, y)

  -- over no edge a node reaches itself alone
  reach_none : (x y : A) → Reaches (Listed []) x y → x ≡ y
  reach_none x y r = Reaches-keeps (Listed []) (λ v. x ≡ v) (λ u v e q. absurd (Contains-nil (u, v) e)) x y r refl

  reach_more : (e : A × A) (es : List (A × A)) (x y : A) → Reaches (Listed es) x y → Reaches (Listed (e ∷ es)) x y
  reach_more e es x y r = Reaches-mono (Listed es) (Listed (e ∷ es)) (λ u v c. Contains-there (u, v) e es c) x y r

  -- by the old edges, or over the new one
  abbrev ByOne : A × A → List (A × A) → A → A → Type 0
  ByOne e es x y = Reaches (Listed es) x y ⊎ (Reaches (Listed es) x e.0 × Reaches (Listed es) e.1 y)

  by_one : (e : A × A) (es : List (A × A)) (x y : A) → Reaches (Listed (e ∷ es)) x y → ByOne e es x y
  by_one e es x y r = Reaches-keeps (Listed (e ∷ es)) (ByOne e es x) step x y r (inl (Reaches-self (Listed es) x))
    where
      to_source : (u v : A) → e ≡ (u, v) → ByOne e es x u → Reaches (Listed es) x e.0
      to_source u v p q = elim q [
        | inl t ↦ subst (λ w. Reaches (Listed es) x w) (sym (ap (λ (w : A × A). w.0) p)) t
        | inr t ↦ t.0
      ]

      step : (u v : A) → Listed (e ∷ es) u v → ByOne e es x u → ByOne e es x v
      step u v c q = elim (Contains-cons_cases e es (u, v) c) [
        | inl p ↦ inr (to_source u v p q, subst (λ w. Reaches (Listed es) e.1 w) (ap (λ (w : A × A). w.1) p) (Reaches-self (Listed es) e.1))
        | inr d ↦ elim q [
          | inl t ↦ inl (Reaches-then (Listed es) x u v t d)
          | inr t ↦ inr (t.0, Reaches-then (Listed es) e.1 u v t.1 d)
        ]
      ]

  -- whether one node reaches another over the edges of a list
  pub reach_decided : (es : List (A × A)) (x y : A) → Reaches (Listed es) x y ⊎ (Reaches (Listed es) x y → ⊥)
  reach_decided [] x y = elim (same x y) [
    | inl e ↦ inl (subst (λ w. Reaches (Listed []) x w) e (Reaches-self (Listed []) x))
    | inr n ↦ inr (λ r. n (reach_none x y r))
  ]
  reach_decided (e ∷ es) x y = elim (reach_decided es x y) [
    | inl r ↦ inl (reach_more e es x y r)
    | inr n ↦ elim (reach_decided es x e.0) [
      | inr m ↦ inr (λ r. elim (by_one e es x y r) [ inl t ↦ n t | inr t ↦ m t.0 ])
      | inl a ↦ elim (reach_decided es e.1 y) [
        | inr m ↦ inr (λ r. elim (by_one e es x y r) [ inl t ↦ n t | inr t ↦ m t.1 ])
        | inl b ↦ inl (Reaches-trans (Listed (e ∷ es)) x e.1 y (Reaches-then (Listed (e ∷ es)) x e.0 e.1 (reach_more e es x e.0 a) (Contains-here e es)) (reach_more e es e.1 y b))
      ]
    ]
  ]

  -- what isn't impossible
  pub reach_stable : (es : List (A × A)) (x y : A) → ((Reaches (Listed es) x y → ⊥) → ⊥) → Reaches (Listed es) x y
  reach_stable es x y h = elim (reach_decided es x y) [ inl r ↦ r | inr n ↦ absurd (h n) ]
