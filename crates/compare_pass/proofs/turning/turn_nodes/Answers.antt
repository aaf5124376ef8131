-- One node more, with its number and its handle.
use Rattle.std.proofs.Common.{◌≡◌, ◌<◌, ◌+◌, ◌++◌, ◌∷◌, [], ℕ, true, false, List, length, map, take, get_or, refl, sym, ◌∙◌, ap, subst, arith, inl, inr}
use Rattle.std.proofs.lemmas.List.{length_push, length-map, map_push, take_more, get_or-map, get_or-take, get_or_append_left, get_or_push, get_or_past}
use Rattle.std.proofs.lemmas.Option.{get_or_from_slice_get, slice_get_within}
use Rattle.std.proofs.lemmas.Bool.{cases_lt}
use Rattle.std.specs.List.{All, Contains}
use Rattle.joint_machine.specs.Components.{Rises}
use Rattle.bridge_graph.specs.declared.graph.Node.{Node}
use Rattle.bridge_graph.specs.Parts.{NodeLeads, numbers_of}
use Rattle.compare_pass.specs.Turned.{AreTurnedNodes}
use Rattle.compare_pass.proofs.Rising.{rises_at}
use Rattle.compare_pass.proofs.turning.turn_nodes.Goals as goal

number_at : (nodes : List Node) (x : ℕ) (node : Node) → x < length nodes → get_or nodes x node ≡ node → get_or (numbers_of nodes) x 0 ≡ node.number.0
number_at nodes x node lt e = get_or-map (λ (n : Node). n.number.0) nodes x node 0 lt ∙ ap (λ (n : Node). n.number.0) e

below_all : (nodes back : List Node) (x : ℕ) (node : Node) → x < length nodes → Rises (numbers_of nodes)
    → get_or nodes x node ≡ node → AreTurnedNodes nodes x back → All (λ n. n.number.0 < node.number.0) back
below_all nodes back x node lt r e t k d kl =
    let m : length (numbers_of nodes) ≡ length nodes = length-map nodes (λ (n : Node). n.number.0) in
    let kx : k < x = omega (arith, kl, t.count) in
    let here : get_or (numbers_of back) k 0 ≡ (get_or back k d).number.0 = get_or-map (λ (n : Node). n.number.0) back k d 0 kl in
    let there : get_or (numbers_of back) k 0 ≡ get_or (numbers_of nodes) k 0 = ap (λ (l : List ℕ). get_or l k 0) t.numbers ∙ get_or-take x (numbers_of nodes) k 0 kx in
    omega (arith, here, there, rises_at (numbers_of nodes) k x r kx (omega (arith, m, lt)), number_at nodes x node lt e)

pub node-requires-clause-rising : goal.node-requires-clause-rising
node-requires-clause-rising c =
    let h = c.number.ensures in
    let lt : c.loop-x.x < length c.args.graph.now.nodes = slice_get_within c.args.graph.now.nodes c.loop-x.x h.0 h.1 in
    let b = below_all c.args.graph.now.nodes c.loop-x.builder.nodes c.loop-x.x h.0 lt c.nodes-x-end.ensures.part.rising
    (get_or_from_slice_get c.args.graph.now.nodes c.loop-x.x h.0 h.0 h.1) c.loop-x.invariant.nodes in
    rw (← h.2) b

turned_more : (nodes back : List Node) (x : ℕ) (node put : Node) → x < length nodes → get_or nodes x node ≡ node → put.number ≡ node.number → put.opaque ≡ false
    → AreTurnedNodes nodes x back → AreTurnedNodes nodes (x + 1) (back ++ put ∷ [])
turned_more nodes back x node put lt e n o t = record {
  count = omega (arith, length_push back put, t.count);
  numbers = map_push (λ (b : Node). b.number.0) back put ∙ ap (λ (l : List ℕ). l ++ put.number.0 ∷ []) t.numbers
      ∙ ap (λ (k : ℕ). take x (numbers_of nodes) ++ k ∷ []) (ap (λ m. m.0) n ∙ sym (number_at nodes x node lt e))
      ∙ sym (take_more (numbers_of nodes) x 0 (omega (arith, lt, length-map nodes (λ (b : Node). b.number.0))));
  clear = λ y yl. rw (map_push (λ (b : Node). b.opaque) back put) (elim (cases_lt y (length back)) [
    | inl l ↦ get_or_append_left (map (λ (b : Node). b.opaque) back) (put.opaque ∷ []) true y (omega (arith, l, length-map back (λ (b : Node). b.opaque))) ∙ t.clear y l
    | inr ge ↦ get_or_push (map (λ (b : Node). b.opaque) back) put.opaque true y (omega (arith, ge, yl, length_push back put, length-map back (λ (b : Node). b.opaque))) ∙ o
  ]);
}

none_more : (edges : List (List ℕ)) → ((u v : ℕ) → NodeLeads edges u v → ⊥) → (u v : ℕ) → NodeLeads (edges ++ [] ∷ []) u v → ⊥
none_more edges h u v c = elim (cases_lt u (length edges)) [
  | inl l ↦ h u v (subst (λ (r : List ℕ). Contains r v) (get_or_append_left edges ([] ∷ []) [] u l) c)
  | inr ge ↦ elim (cases_lt u (length edges + 1)) [
    | inl l ↦ let d = subst (λ (r : List ℕ). Contains r v) (get_or_push edges [] [] u (omega (arith, ge, l))) c in absurd (omega (arith, d.1))
    | inr past ↦ let d = subst (λ (r : List ℕ). Contains r v) (get_or_past (edges ++ [] ∷ []) u [] (omega (arith, past, length_push edges []))) c in absurd (omega (arith, d.1))
  ]
]

pub loop-x-preserved : goal.loop-x-preserved
loop-x-preserved c =
    let i = c.loop-x.invariant in
    let h = c.number.ensures in
    let nodes = c.args.graph.now.nodes in
    let x : ℕ = c.loop-x.x in
    let lt : x < length nodes = slice_get_within nodes x h.0 h.1 in
    let e = get_or_from_slice_get nodes x h.0 h.0 h.1 in
    rw (c.in_ok-node.ensures.nodes, c.in_ok-node.ensures.edges) record {
      nodes = turned_more nodes c.loop-x.builder.nodes x h.0 _ lt e (sym h.2) refl i.nodes;
      rows = omega (arith, length_push c.loop-x.builder.edges [], length_push c.loop-x.builder.nodes (record { number = c.number.result; handle = c.handle.result; opaque = false }), i.rows);
      edges = none_more c.loop-x.builder.edges i.edges;
    }
