-- One edge more, turned round.
use Rattle.std.proofs.Common.{◌≡◌, ◌↔◌, ◌⊎◌, ◌<◌, ◌++◌, ◌∷◌, [], ℕ, List, length, take, get_or, set, refl, sym, ◌∙◌, ap, subst, arith, inl, inr}
use Rattle.std.proofs.lemmas.List.{take_more, take_all, length-set, get_or-set_same, get_or-set_other}
use Rattle.std.proofs.lemmas.List.Elements.{Contains-append_left, Contains-push, Contains-push_cases}
use Rattle.std.proofs.lemmas.Bool.{cases_eq}
use Rattle.std.specs.List.{Contains}
use Rattle.bridge_graph.specs.Parts.{NodeLeads, row_at}
use Rattle.compare_pass.proofs.turning.turn_row.Goals as goal

turn_step : (edges : List (List ℕ)) (y x u v : ℕ) → y < length edges → NodeLeads (set edges y (row_at edges y ++ x ∷ [])) u v ↔ (NodeLeads edges u v ⊎ ((u ≡ y) × (v ≡ x)))
turn_step edges y x u v lt =
    elim (cases_eq u y) [
      | inl is ↦
          let here : row_at (set edges y (row_at edges y ++ x ∷ [])) u ≡ row_at edges u ++ x ∷ [] =
          ap (λ (k : ℕ). row_at (set edges y (row_at edges y ++ x ∷ [])) k) is ∙ get_or-set_same edges y (row_at edges y ++ x ∷ []) [] lt ∙ ap (λ (k : ℕ). row_at edges k ++ x ∷ []) (sym is) in (
            (λ c. elim (Contains-push_cases (row_at edges u) x v (subst (λ (r : List ℕ). Contains r v) here c)) [
              | inl d ↦ inl d
              | inr e ↦ inr (is, sym e)
            ]),
            (λ t. subst (λ (r : List ℕ). Contains r v) (sym here) (elim t [
              | inl d ↦ Contains-append_left (row_at edges u) (x ∷ []) v d
              | inr e ↦ subst (λ (z : ℕ). Contains (row_at edges u ++ x ∷ []) z) (sym e.1) (Contains-push (row_at edges u) x)
            ])),
          )
      | inr ne ↦
          let there : row_at (set edges y (row_at edges y ++ x ∷ [])) u ≡ row_at edges u = get_or-set_other edges y u (row_at edges y ++ x ∷ []) [] ne in (
            (λ c. inl (subst (λ (r : List ℕ). Contains r v) there c)),
            (λ t. elim t [ inl d ↦ subst (λ (r : List ℕ). Contains r v) (sym there) d | inr e ↦ absurd (ne e.0) ]),
          )
    ]

turn_more : (before now after : List (List ℕ)) (row : List ℕ) (x y : ℕ) → ((u v : ℕ) → NodeLeads now u v ↔ (NodeLeads before u v ⊎ (Contains row u × (v ≡ x))))
    → y < length now → after ≡ set now y (row_at now y ++ x ∷ []) → (u v : ℕ) → NodeLeads after u v ↔ (NodeLeads before u v ⊎ (Contains (row ++ y ∷ []) u × (v ≡ x)))
turn_more before now after row x y h lt e u v =
    let s = subst (λ (es : List (List ℕ)). NodeLeads es u v ↔ (NodeLeads now u v ⊎ ((u ≡ y) × (v ≡ x)))) (sym e) (turn_step now y x u v lt) in
    let i = h u v in (
      (λ c. elim (s.0 c) [
        | inl d ↦ elim (i.0 d) [ inl b ↦ inl b | inr r ↦ inr (Contains-append_left row (y ∷ []) u r.0, r.1) ]
        | inr t ↦ inr (subst (λ (z : ℕ). Contains (row ++ y ∷ []) z) (sym t.0) (Contains-push row y), t.1)
      ]),
      (λ t. elim t [
        | inl b ↦ s.1 (inl (i.1 (inl b)))
        | inr r ↦ elim (Contains-push_cases row y u r.0) [ inl d ↦ s.1 (inl (i.1 (inr (d, r.1)))) | inr k ↦ s.1 (inr (sym k, r.1)) ]
      ]),
    )

pub loop-y-init : goal.loop-y-init
loop-y-init c = record {
  nodes = refl;
  rows = refl;
  edges = λ u v. ((λ d. inl d), (λ t. elim t [ inl d ↦ d | inr r ↦ absurd (omega (arith, r.0.1)) ]));
}

pub edge-requires-clause-from : goal.edge-requires-clause-from
edge-requires-clause-from c = rw c.loop-y.invariant.nodes (c.requires.from c.loop-y.y-index 0 c.loop-y-test.true)

pub edge-requires-clause-to : goal.edge-requires-clause-to
edge-requires-clause-to c = rw c.loop-y.invariant.nodes c.requires.to

pub edge-requires-clause-open : goal.edge-requires-clause-open
edge-requires-clause-open c = rw c.loop-y.invariant.nodes (c.requires.clear (get_or c.args.row.now c.loop-y.y-index 0) (c.requires.from c.loop-y.y-index 0 c.loop-y-test.true))

pub loop-y-preserved : goal.loop-y-preserved
loop-y-preserved c =
    let i = c.loop-y.invariant in
    let y : ℕ = get_or c.args.row.now c.loop-y.y-index 0 in
    let lt : y < length c.loop-y.builder.edges = omega (arith, i.rows, c.requires.rows, c.requires.from c.loop-y.y-index 0 c.loop-y-test.true) in
    let e = c.in_ok-edge.ensures.edges in
    rw (take_more c.args.row.now c.loop-y.y-index 0 c.loop-y-test.true) record {
      nodes = c.edge.ensures.nodes ∙ i.nodes;
      rows = ap length e ∙ length-set c.loop-y.builder.edges y (row_at c.loop-y.builder.edges y ++ c.args.x ∷ []) ∙ i.rows;
      edges = turn_more c.args.builder.now.edges c.loop-y.builder.edges c.edge.new.self.edges (take c.loop-y.y-index c.args.row.now) c.args.x y i.edges lt e;
    }

pub returns-clause-edges : goal.returns-clause-edges
returns-clause-edges c = rw (take_all c.loop-y.y-index c.args.row.now (omega arith)) at c.loop-y.invariant.edges
