-- The search from x goes through x's own class and through classes that may be passed. It comes to a node of another
-- class exactly where x leads to that class: the part of its walk behind the last node of the own class has passed
-- classes only, and the way to where that part begins lies in the class.
use Rattle.std.proofs.Common.{◌≡◌, ◌↔◌, ◌⊎◌, ℕ, ◌<◌, List, [], ◌∷◌, ◌++◌, get_or, refl, sym, inl, inr}
use Rattle.std.specs.Prelude.{All}
use Rattle.std.proofs.lemmas.Bool.{cases_eq}
use Rattle.std.proofs.lemmas.List.Elements.{All-nil, All-head, All-tail, All-push}
use Rattle.joint_machine.specs.Walks.{Walks, Reaches, Mutual}
use Rattle.joint_machine.specs.Components.{Leads}
use Rattle.joint_machine.proofs.WalkLemmas.{Walks-join, Reaches-self, Reaches-then, Reaches-trans, Reaches-keeps, Mutual-self, Mutual-trans}
use Rattle.bridge_graph.specs.Parts.{NodeLeads}
use Rattle.compare_pass.specs.Classes.{AreClasses}
use Rattle.compare_pass.specs.Searching.{Goes, Opens, index_at, no_index}
use Rattle.compare_pass.proofs.Finding.{walk_inside}

module _ (edges : List (List ℕ)) (count : ℕ) (labels indexes : List ℕ) (passed : ℕ → Type 0) (within : (u v : ℕ) → NodeLeads edges u v → v < count)
    (classes : AreClasses edges count labels) (bare : (x : ℕ) → x < count → (index_at labels indexes x ≡ no_index) ↔ passed x) where
  abbrev E : ℕ → ℕ → Type 0
  E = NodeLeads edges

  abbrev Step : ℕ → ℕ → ℕ → Type 0
  Step x = Goes edges labels indexes (get_or labels x 0)

  -- what is reached from a node is a node
  pub in_range : (x y : ℕ) → x < count → Reaches E x y → y < count
  in_range x y lt r = Reaches-keeps E (λ v. v < count) (λ u v e q. within u v e) x y r lt

  own_opens : (x u : ℕ) → x < count → Mutual E x u → Opens labels indexes (get_or labels x 0) u
  own_opens x u lt m = inl (sym ((classes.exact x u lt (in_range x u lt m.there)).1 m))

  through : (x u to : ℕ) (zs : List ℕ) → x < count → Reaches (Step x) x u → Opens labels indexes (get_or labels x 0) u → Walks E u (zs ++ to ∷ []) to → All passed zs → Reaches (Step x) x to
  through x u to [] lt r o w a = Reaches-then (Step x) x u to r (o, w.0)
  through x u to (z ∷ zs) lt r o w a =
      through x z to zs lt (Reaches-then (Step x) x u z r (o, w.0)) (inr ((bare z (within u z w.0)).1 (All-head passed z zs a))) w.1 (All-tail passed z zs a)

  -- where x leads to a class, the search comes to it
  pub leads-comes : (x b : ℕ) → x < count → (l : Leads E passed x b) → Reaches (Step x) x l.to
  leads-comes x b lt l =
      let leave : Reaches (Step x) x l.from = walk_inside E (Step x) count x within
      (λ u v ul m e. (own_opens x u lt m, e)) x l.from l.leaves.there.rows lt (Reaches-self (Step x) x) (Mutual-self E x) l.leaves.there.walk l.leaves.back in
      through x l.from l.to l.between lt leave (own_opens x l.from lt l.leaves) l.walk l.plain

  -- and to all of it, where it may be passed
  pub leads-all : (x b : ℕ) → x < count → b < count → ((u : ℕ) → Mutual E b u → passed u) → Leads E passed x b → Reaches (Step x) x b
  leads-all x b lt bl p l =
      let tl = in_range b l.to bl l.arrives.there in
      Reaches-trans (Step x) x l.to b (leads-comes x b lt l)
      (walk_inside E (Step x) count l.to within (λ u v ul m e. (inr ((bare u ul).1 (p u (Mutual-trans E b l.to u l.arrives m))), e))
      l.to b l.arrives.back.rows tl (Reaches-self (Step x) l.to) (Mutual-self E l.to) l.arrives.back.walk l.arrives.there)

  -- how the search came to v: it is in the own class, or the walk left it behind
  Exit : ℕ → ℕ → Type 0
  Exit x v = Mutual E x v ⊎ ((from : ℕ) × (between : List ℕ) × Mutual E x from × Walks E from (between ++ v ∷ []) v × All passed between)

  exit_step : (x u v : ℕ) → x < count → u < count → Exit x u → Step x u v → Exit x v
  unfolding Exit
  exit_step x u v lt ul q h =
      elim (cases_eq (get_or labels u 0) (get_or labels x 0)) [
        | inl e ↦ inr (u, [], (classes.exact x u lt ul).0 (sym e), (h.1, refl), All-nil passed)
        | inr ne ↦ elim h.0 [
          | inl e ↦ absurd (ne e)
          | inr t ↦ elim q [
            | inl m ↦ absurd (ne (sym ((classes.exact x u lt ul).1 m)))
            | inr p ↦ inr (p.0, p.1 ++ u ∷ [], p.2, Walks-join E p.0 (p.1 ++ u ∷ []) u (v ∷ []) v p.3 (h.1, refl), All-push passed p.1 u p.4 ((bare u ul).0 t))
          ]
        ]
      ]

  exit_of : (x y : ℕ) → x < count → Reaches (Step x) x y → (y < count) × Exit x y
  unfolding Exit
  exit_of x y lt r = Reaches-keeps (Step x) (λ v. (v < count) × Exit x v) (λ u v h q. (within u v h.1, exit_step x u v lt q.0 q.1 h)) x y r (lt, inl (Mutual-self E x))

  pub comes-below : (x y : ℕ) → x < count → Reaches (Step x) x y → y < count
  comes-below x y lt r = (exit_of x y lt r).0

  -- where the search comes to another class, x leads to it
  pub comes-leads : (x y b : ℕ) → x < count → Reaches (Step x) x y → (Mutual E x y → ⊥) → Mutual E b y → Leads E passed x b
  unfolding Exit
  comes-leads x y b lt r far m =
      elim (exit_of x y lt r).1 [
        | inl t ↦ absurd (far t)
        | inr p ↦ record { from = p.0; between = p.1; to = y; leaves = p.2; arrives = m; walk = p.3; plain = p.4 }
      ]
