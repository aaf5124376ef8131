-- The bridge nodes of a dead part's graph are the open cycle's candidates, in their order: both lists rise, and have
-- the same rows.
use Rattle.std.proofs.Common.{◌≡◌, ⊎_elim, ℕ, zero, suc, ◌<◌, List, [], ◌∷◌, ◌++◌, length, Option, Some, None, refl, sym, ap, ◌∙◌, subst}
use Rattle.std.specs.Prelude.{Contains, IsSome, flat_map, slice_get}
use Rattle.std.specs.Option.{option_to_list}
use Rattle.std.proofs.lemmas.List.Elements.{All-contains}
use Rattle.joint_machine.specs.declared.names.HNum.{HNum}
use Rattle.joint_machine.specs.Components.{Rises}
use Rattle.joint_machine.specs.Managed.{Managed, OpenCycle, handle_of, candidates_of, IsBridge as IsBridgeRow}
use Rattle.joint_machine.proofs.HeapLemmas.{candidates_of-open}
use Rattle.joint_machine.proofs.Members.{All-members, Contains-at, Contains-cons_cases, Contains-flat_map, Contains-flat_map_cases, Contains-here, Contains-map, Contains-nil, Contains-there}
use Rattle.joint_machine.proofs.Members.{Rises-one, at-Contains}
use Rattle.joint_laws.specs.ManagedInvariants.{ManagedInvariant}
use Rattle.bridge_graph.specs.declared.graph.Node.{Node}
use Rattle.bridge_graph.specs.Parts.{Part, IsPart, numbers_of}
use Rattle.managed_heap.specs.Graphs.{IsDeadGraph, handle_number}
use Rattle.bridge_graph.specs.Handles.{handles_of}
use Rattle.dead_parts.specs.Graphs.{AreCandidates, number_at}
use Rattle.dead_parts.proofs.DeadContraction.{handle_at_node, index_get, renumbered}
use Rattle.dead_parts.proofs.Renumbered.{get_map}

-- the numbers of the bridge nodes
abbrev row_of : Option HNum → ℕ → List ℕ
row_of None m = []
row_of (Some h) m = m ∷ []

abbrev rows_of : List Node → List ℕ
rows_of ns = flat_map (λ (n : Node). row_of n.handle n.number.0) ns

one_more : (n : Node) (ns : List Node) (o : Option HNum) → length (handles_of ns) ≡ length (rows_of ns) → length (option_to_list o ++ handles_of ns) ≡ length (row_of o n.number.0 ++ rows_of ns)
one_more n ns None e = e
one_more n ns (Some h) e = ap suc e

as_many : (ns : List Node) → length (handles_of ns) ≡ length (rows_of ns)
as_many [] = refl
as_many (n ∷ ns) = one_more n ns n.handle (as_many ns)

-- the node whose handle stands at a place
abbrev Paired : List Node → ℕ → HNum → List ℕ → Type 0
Paired ns i h rows = (k : Node) × Contains ns k × (k.handle ≡ Some h) × (slice_get rows i ≡ Some k.number.0)

pair_first : (n : Node) (ns : List Node) (h : HNum) (o : Option HNum) → n.handle ≡ o
    → ((i : ℕ) → slice_get (handles_of ns) i ≡ Some h → Paired ns i h (rows_of ns)) → (i : ℕ) → slice_get (option_to_list o ++ handles_of ns) i ≡ Some h
    → Paired (n ∷ ns) i h (row_of o n.number.0 ++ rows_of ns)
pair_first n ns h None q later i e = let t = later i e in (t.0, Contains-there t.0 n ns t.1, t.2, t.3)
pair_first n ns h (Some x) q later zero e = (n, Contains-here n ns, q ∙ e, refl)
pair_first n ns h (Some x) q later (suc i) e = let t = later i e in (t.0, Contains-there t.0 n ns t.1, t.2, t.3)

paired : (ns : List Node) (i : ℕ) (h : HNum) → slice_get (handles_of ns) i ≡ Some h → Paired ns i h (rows_of ns)
paired [] i h e = absurd (cc)
paired (n ∷ ns) i h e = pair_first n ns h n.handle refl (λ k q. paired ns k h q) i e

-- which numbers these are
row_from : (o : Option HNum) (m x : ℕ) → Contains (row_of o m) x → IsSome o × (m ≡ x)
row_from None m x c = absurd (Contains-nil x c)
row_from (Some h) m x c = (refl, ⊎_elim (λ (e : m ≡ x). e) (λ d. absurd (Contains-nil x d)) (Contains-cons_cases m [] x c))

row_to : (o : Option HNum) (m : ℕ) → IsSome o → Contains (row_of o m) m
row_to None m is = absurd (cc)
row_to (Some h) m is = Contains-here m []

rises_first : (n : Node) (ns : List Node) (o : Option HNum) → Rises (numbers_of (n ∷ ns)) → Rises (rows_of ns) → Rises (row_of o n.number.0 ++ rows_of ns)
rises_first n ns None r more = more
rises_first n ns (Some h) r more = (
  All-members (λ y. n.number.0 < y) (rows_of ns) (λ y c.
      let t = Contains-flat_map_cases (λ (k : Node). row_of k.handle k.number.0) ns y c in
      let w = row_from t.0.handle t.0.number.0 y t.2 in
      subst (λ (z : ℕ). n.number.0 < z) w.1 (All-contains (λ z. n.number.0 < z) (numbers_of ns) t.0.number.0 r.0 (Contains-map (λ (k : Node). k.number.0) ns t.0 t.1))),
  more,
)

rises : (ns : List Node) → Rises (numbers_of ns) → Rises (rows_of ns)
rises [] r = tt
rises (n ∷ ns) r = rises_first n ns n.handle r (rises ns r.1)

module _ (s : Managed) (c : OpenCycle) (g : Part) (k : ManagedInvariant s) (opened : s.cycle ≡ Some c) (p : IsPart g.nodes g.edges) (d : IsDeadGraph s c.dead g) where
  number_is : (x : ℕ) (n : Node) → slice_get g.nodes x ≡ Some n → number_at g x ≡ n.number.0
  number_is x n e = index_get (numbers_of g.nodes) x n.number.0 (get_map (λ (n : Node). n.number.0) g.nodes x n e)

  into : (m : ℕ) → Contains (rows_of g.nodes) m → Contains c.candidates m
  into m is =
      let t = Contains-flat_map_cases (λ (n : Node). row_of n.handle n.number.0) g.nodes m is in
      let w = row_from t.0.handle t.0.number.0 m t.2 in
      let at = at-Contains g.nodes t.0 t.1 in
      let b = (renumbered s c.dead g k p d).bridge_on at.0 (record { node = t.0; there = at.1; held = w.0 }) in
      subst (Contains c.candidates) (number_is at.0 t.0 at.1 ∙ w.1) (((k.dead c opened).candidates (number_at g at.0)).1 b)

  from : (m : ℕ) → Contains c.candidates m → Contains (rows_of g.nodes) m
  from m is =
      let r = renumbered s c.dead g k p d in
      let b = ((k.dead c opened).candidates m).0 is in
      let t = r.bridge_from m b in
      let n = r.bridge_back t.0 t.1 (subst (λ (z : ℕ). Contains c.dead z × IsBridgeRow s z) (sym t.2) b) in
      let e : n.node.number.0 ≡ m = sym (number_is t.0 n.node n.there) ∙ t.2 in
      subst (Contains (rows_of g.nodes)) e (Contains-flat_map (λ (n : Node). row_of n.handle n.number.0) g.nodes n.node n.node.number.0
      (Contains-at g.nodes t.0 n.node n.there) (row_to n.node.handle n.node.number.0 n.held))

  rows_are : rows_of g.nodes ≡ candidates_of s
  rows_are = Rises-one (rows_of g.nodes) c.candidates (rises g.nodes p.rising) (k.dead c opened).rise into from ∙ sym (candidates_of-open s c opened)

  pub are_candidates : AreCandidates s g.nodes
  are_candidates = record {
    count = as_many g.nodes ∙ ap length rows_are;
    each = λ i h e.
        let t = paired g.nodes i h e in
        let at = at-Contains g.nodes t.0 t.1 in
        let held = handle_at_node s c.dead g k p d at.0 t.0 at.1 in (
          t.0.number.0,
          subst (λ (ms : List ℕ). slice_get ms i ≡ Some t.0.number.0) rows_are t.3,
          subst (λ (m : ℕ). handle_of s m ≡ Some h.0) (number_is at.0 t.0 at.1) (held ∙ ap handle_number t.2),
        );
  }
