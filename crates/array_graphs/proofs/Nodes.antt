-- The nodes of the kinds, one by one: their numbers rise, none is opaque, and the bridge nodes are those whose kinds
-- aren't 0.
use Rattle.std.proofs.Common.{◌≡◌, ◌≢◌, ℕ, zero, suc, ◌+◌, ◌<◌, ◌≤◌, ◌↔◌, inl, inr, true, List, [], ◌∷◌, ◌++◌, length, get_or, slice_get, false, cond, Some, None, refl, sym, ap, subst}
use Rattle.std.proofs.Common.{◌∙◌, arith}
use Rattle.std.specs.Prelude.{All, IsSome, is_some}
use Rattle.std.proofs.Math.Dec.{eqb}
use Rattle.std.proofs.lemmas.Bool.Decides.{nat_tests}
use Rattle.std.proofs.lemmas.Bool.{cases_lt, false≢true}
use Rattle.std.proofs.lemmas.List.{get_or-map, length_push, map_push}
use Rattle.std.proofs.lemmas.List.Elements.{All-map}
use Rattle.std.proofs.lemmas.Option.{same_Some, slice_get_within, slice_get-get_or, get_or_from_slice_get}
use Rattle.joint_machine.proofs.Members.{at-Contains, All-members, last-or, Rises-push}
use Rattle.joint_machine.proofs.Numbered.{push-at_old, push-at_new}
use Rattle.joint_machine.specs.Components.{Rises}
use Rattle.joint_machine.specs.declared.names.HNum.{HNum}
use Rattle.bridge_graph.specs.declared.graph.Node.{Node}
use Rattle.bridge_graph.specs.Parts.{IsBridgeNode, numbers_of, opaque_at}
use Rattle.array_graphs.specs.Made.{HasNodes, handle_by, node_at}
use Rattle.array_graphs.specs.Graphs.{IsBridgeAt}

pub nodes-none : (kinds : List ℕ) → HasNodes kinds 0 []
nodes-none kinds = record { count = refl; each = λ x l. absurd (omega (arith, l)); rising = tt }

nodes-below : (kinds : List ℕ) (n : ℕ) (nodes : List Node) → HasNodes kinds n nodes → All (λ (m : Node). m.number.0 < n + 1) nodes
nodes-below kinds n nodes h = All-members (λ (m : Node). m.number.0 < n + 1) nodes (λ m c. (
    let a = at-Contains nodes m c in
    let l : a.0 < n = (let w = slice_get_within nodes a.0 m a.1 in omega (arith, w, h.count)) in
    let e : node_at kinds a.0 ≡ m = same_Some (node_at kinds a.0) m (sym (h.each a.0 l) ∙ a.1) in
    subst (λ (k : Node). k.number.0 < n + 1) e (omega (arith, l))))

pub nodes-more : (kinds : List ℕ) (n : ℕ) (nodes : List Node) → HasNodes kinds n nodes → HasNodes kinds (n + 1) (nodes ++ node_at kinds n ∷ [])
nodes-more kinds n nodes h = record {
  count = (let e = length_push nodes (node_at kinds n) in omega (arith, e, h.count));
  each = λ x l. elim (last-or x n l) [
    | inl m ↦ push-at_old nodes (node_at kinds n) x (omega (arith, m, h.count)) ∙ h.each x m
    | inr e ↦ subst (λ k. slice_get (nodes ++ node_at kinds n ∷ []) k ≡ Some (node_at kinds k)) (sym e)
        (subst (λ k. slice_get (nodes ++ node_at kinds n ∷ []) k ≡ Some (node_at kinds n)) h.count (push-at_new nodes (node_at kinds n)))
  ];
  rising = subst Rises (sym (map_push (λ (m : Node). m.number.0) nodes (node_at kinds n)))
      (Rises-push (numbers_of nodes) (n + 1) h.rising (All-map (λ y. y < n + 1) (λ (m : Node). m.number.0) nodes (nodes-below kinds n nodes h)));
}

-- only what is past the last node is opaque
pub nodes-open : (kinds : List ℕ) (n : ℕ) (nodes : List Node) → HasNodes kinds n nodes → (x : ℕ) → opaque_at nodes x ≡ true → n ≤ x
nodes-open kinds n nodes h x o = elim (cases_lt x n) [
  | inl l ↦ (
      let d = node_at kinds x in
      let at = get_or-map (λ (m : Node). m.opaque) nodes x d true (omega (arith, l, h.count)) in
      let same = ap (λ (m : Node). m.opaque) (get_or_from_slice_get nodes x d d (h.each x l)) in
      absurd (false≢true (sym same ∙ (sym at ∙ o))))
  | inr ge ↦ ge
]

held-kind : (kind number : ℕ) → IsSome (handle_by kind number) → kind ≢ 0
held-kind zero number s = (let f : ⊥ = cc in absurd f)
held-kind (suc kind) number s = λ e. omega (arith, e)

kind-held : (kind number : ℕ) → kind ≢ 0 → IsSome (handle_by kind number)
kind-held kind number n =
    let e : eqb kind 0 ≡ false = grind (arith, nat_tests) in
    ap (λ b. is_some (cond b None (Some (number_as number)))) e
  where
    number_as : ℕ → HNum
    number_as m = record { 0 = m }

-- the bridge nodes are those whose kinds aren't 0
pub nodes-bridge : (kinds : List ℕ) (nodes : List Node) → HasNodes kinds (length kinds) nodes → (x : ℕ) → IsBridgeNode nodes x ↔ IsBridgeAt kinds x
nodes-bridge kinds nodes h x = (forth, back)
  where
    forth : IsBridgeNode nodes x → IsBridgeAt kinds x
    forth b =
        let l : x < length kinds = (let w = slice_get_within nodes x b.node b.there in omega (arith, w, h.count)) in
        let e : node_at kinds x ≡ b.node = same_Some (node_at kinds x) b.node (sym (h.each x l) ∙ b.there) in
        (get_or kinds x 0, slice_get-get_or kinds x 0 l, held-kind (get_or kinds x 0) (x + 1) (subst (λ (m : Node). IsSome m.handle) (sym e) b.held))

    back : IsBridgeAt kinds x → IsBridgeNode nodes x
    back a =
        let l : x < length kinds = slice_get_within kinds x a.0 a.1 in
        let same : get_or kinds x 0 ≡ a.0 = get_or_from_slice_get kinds x a.0 0 a.1 in
        record { node = node_at kinds x; there = h.each x l; held = subst (λ k. IsSome (handle_by k (x + 1))) (sym same) (kind-held a.0 (x + 1) a.2) }
