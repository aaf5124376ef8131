-- The numbers rise, so what is greater than the last one is greater than each.
use Rattle.std.proofs.Common.{◌≡◌, ◌-◌, ◌<◌, ℕ, Bool, true, false, List, length, get_or, refl, sym, ◌∙◌, ap, subst, arith}
use Rattle.std.specs.Bool.{OnTrue}
use Rattle.std.specs.List.{All}
use Rattle.std.proofs.lemmas.Bool.{ltb-true}
use Rattle.std.proofs.lemmas.List.{get_or-map, length-map}
use Rattle.bridge_graph.specs.declared.graph.Node.{Node}
use Rattle.bridge_graph.specs.Parts.{numbers_of}
use Rattle.bridge_graph.proofs.Building.{below-last}
use Rattle.bridge_graph.proofs.builder.GraphBuilder.next_is.Goals as goal

on : (t : Bool) (P : Type 0) → (t ≡ true → P) → OnTrue t P
on true P h = h refl
on false P h = tt

all_numbers : (nodes : List Node) (y : ℕ) → All (λ x. x < y) (numbers_of nodes) → All (λ n. n.number.0 < y) nodes
all_numbers nodes y h = λ k d lt. subst (λ (x : ℕ). x < y) (get_or-map (λ (n : Node). n.number.0) nodes k d 0 lt) (h k 0 (omega (arith, lt, length-map nodes (λ (n : Node). n.number.0))))

pub returns-else-count-eq0-clause-rising : goal.returns-else-count-eq0-clause-rising
returns-else-count-eq0-clause-rising c =
    let v = c.self.view_is in
    let nodes = c.self.inside.nodes.items in
    let last = c.index.result.now in
    on _ _ (λ t.
    let lt = ltb-true last.number.0 c.args.number.0 t in
    let k : ℕ = length nodes - 1 in
    let in' : k < length nodes = omega arith in
    let is : last ≡ get_or nodes k last = c.index.ensures ∙ ap (λ (i : ℕ). get_or nodes i last) (omega arith) in
    let n = length-map nodes (λ (m : Node). m.number.0) in
    let at : get_or (numbers_of nodes) (length (numbers_of nodes) - 1) 0 ≡ last.number.0 =
    ap (λ (i : ℕ). get_or (numbers_of nodes) (i - 1) 0) n ∙ get_or-map (λ (m : Node). m.number.0) nodes k last 0 in' ∙ sym (ap (λ (m : Node). m.number.0) is) in
    rw (← v) (all_numbers nodes c.args.number.0 (below-last (numbers_of nodes) c.args.number.0 c.self.invariant.rising (λ _. omega (arith, at, lt)))))
