-- The edges of one node more.
use Rattle.std.proofs.Common.{◌≡◌, ◌↔◌, ◌⊎◌, ◌<◌, ◌+◌, ℕ, List, length, refl, sym, ◌∙◌, ap, subst, arith, inl, inr}
use Rattle.std.proofs.lemmas.Bool.{cases_lt}
use Rattle.std.specs.List.{Contains}
use Rattle.bridge_graph.specs.Parts.{NodeLeads, row_at}
use Rattle.compare_pass.proofs.Reaching.{leads_from}
use Rattle.compare_pass.proofs.turning.turn_edges.Goals as goal

node_more : (edges now after : List (List ℕ)) (x : ℕ) → ((u v : ℕ) → NodeLeads now u v ↔ (NodeLeads edges v u × (v < x)))
    → ((u v : ℕ) → NodeLeads after u v ↔ (NodeLeads now u v ⊎ (Contains (row_at edges x) u × (v ≡ x)))) → (u v : ℕ) → NodeLeads after u v ↔ (NodeLeads edges v u × (v < x + 1))
node_more edges now after x h e u v = (
  (λ c. elim ((e u v).0 c) [
    | inl d ↦ let t = (h u v).0 d in (t.0, omega (arith, t.1))
    | inr r ↦ (subst (λ (k : ℕ). Contains (row_at edges k) u) (sym r.1) r.0, omega (arith, r.1))
  ]),
  (λ t. elim (cases_lt v x) [
    | inl lt ↦ (e u v).1 (inl ((h u v).1 (t.0, lt)))
    | inr ge ↦ let is : v ≡ x = omega (arith, ge, t.1) in (e u v).1 (inr (subst (λ (k : ℕ). Contains (row_at edges k) u) is t.0, is))
  ]),
)

pub loop-x-init : goal.loop-x-init
loop-x-init c = record { nodes = refl; rows = refl; edges = λ u v. ((λ d. absurd (c.requires.edges u v d)), (λ t. absurd (omega (arith, t.1)))) }

pub turn_row-requires-clause-from : goal.turn_row-requires-clause-from
turn_row-requires-clause-from c = λ k d lt. omega (arith, c.row.ensures.in_range k d lt, ap length c.loop-x.invariant.nodes, c.requires.nodes.count)

pub turn_row-requires-clause-to : goal.turn_row-requires-clause-to
turn_row-requires-clause-to c = omega (arith, ap length c.loop-x.invariant.nodes, c.requires.nodes.count)

pub turn_row-requires-clause-clear : goal.turn_row-requires-clause-clear
turn_row-requires-clause-clear c = rw c.loop-x.invariant.nodes c.requires.nodes.clear

pub turn_row-requires-clause-rows : goal.turn_row-requires-clause-rows
turn_row-requires-clause-rows c = c.loop-x.invariant.rows ∙ c.requires.rows ∙ sym (ap length c.loop-x.invariant.nodes)

pub loop-x-preserved : goal.loop-x-preserved
loop-x-preserved c =
    let i = c.loop-x.invariant in
    let e = rw c.row.ensures.row at c.in_ok-turn_row.ensures.edges in
    record {
      nodes = c.turn_row.ensures.nodes ∙ i.nodes;
      rows = c.turn_row.ensures.rows ∙ i.rows;
      edges = node_more c.args.graph.now.edges c.loop-x.builder.edges c.turn_row.new.builder.edges c.loop-x.x i.edges e;
    }

pub returns-clause-edges : goal.returns-clause-edges
returns-clause-edges c = λ u v.
    let e = c.loop-x.invariant.edges u v in (
      (λ d. (e.0 d).0),
      (λ d. e.1 (d, omega (arith, leads_from c.args.graph.now.edges v u d, c.nodes-x-end.ensures.part.rows, c.nodes-x-end.ensures.count))),
    )
