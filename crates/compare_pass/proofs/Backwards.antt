-- Over edges that are turned round walks lead the other way, through the same rows.
use Rattle.std.proofs.Common.{ℕ, List, [], ◌∷◌, ◌++◌, refl, subst}
use Rattle.std.specs.Prelude.{All}
use Rattle.std.proofs.lemmas.List.Elements.{All-nil, All-head, All-tail, All-push}
use Rattle.joint_machine.specs.Walks.{Walks, Reaches, Mutual}
use Rattle.joint_machine.specs.Components.{Leads}
use Rattle.joint_machine.proofs.WalkLemmas.{Walks-join, Reaches-self, Reaches-then}

module _ (edge back : ℕ → ℕ → Type 0) (turn : (u v : ℕ) → back u v → edge v u) where
  walk-back : (x : ℕ) (rows : List ℕ) (y : ℕ) → Walks back x rows y → Reaches edge y x
  walk-back x [] y w = subst (λ z. Reaches edge z x) w (Reaches-self edge x)
  walk-back x (z ∷ rows) y w = Reaches-then edge y z x (walk-back z rows y w.1) (turn x z w.0)

  pub reaches-back : (x y : ℕ) → Reaches back x y → Reaches edge y x
  reaches-back x y r = walk-back x r.rows y r.walk

  pub mutual-back : (x y : ℕ) → Mutual back x y → Mutual edge x y
  mutual-back x y m = record { there = reaches-back y x m.back; back = reaches-back x y m.there }

  between-back : (passed : ℕ → Type 0) (from : ℕ) (between : List ℕ) (to : ℕ) → Walks back from (between ++ to ∷ []) to → All passed between
      → (rows : List ℕ) × Walks edge to (rows ++ from ∷ []) from × All passed rows
  between-back passed from [] to w a = ([], (turn from to w.0, refl), All-nil passed)
  between-back passed from (z ∷ zs) to w a =
      let r = between-back passed z zs to w.1 (All-tail passed z zs a) in
      (r.0 ++ z ∷ [], Walks-join edge to (r.0 ++ z ∷ []) z (from ∷ []) from r.1 (turn from z w.0, refl), All-push passed r.0 z r.2 (All-head passed z zs a))

  pub leads-back : (passed : ℕ → Type 0) (a b : ℕ) → Leads back passed a b → Leads edge passed b a
  leads-back passed a b l =
      let r = between-back passed l.from l.between l.to l.walk l.plain in
      record { from = l.to; between = r.0; to = l.from; leaves = mutual-back b l.to l.arrives; arrives = mutual-back a l.from l.leaves; walk = r.1; plain = r.2 }
