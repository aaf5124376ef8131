-- The graph of a dead part is the dead part with its rows renumbered by their places: its nodes' numbers rise, its
-- bridge nodes are the rows that hold a handle, and its edges lead where the rows' fields lead inside the dead part.
use Rattle.std.proofs.Common.{◌≡◌, ℕ, zero, suc, ◌<◌, List, [], ◌∷◌, length, Option, Some, None, refl, sym, ◌∙◌, subst, arith}
use Rattle.std.specs.Prelude.{Contains, IsSome, slice_get, slice_index}
use Rattle.std.proofs.lemmas.List.{length-map}
use Rattle.std.proofs.lemmas.List.Elements.{All-contains}
use Rattle.std.proofs.lemmas.Option.{same_Some, slice_get_within}
use Rattle.joint_machine.specs.declared.names.HNum.{HNum}
use Rattle.joint_machine.specs.Components.{Rises}
use Rattle.joint_machine.specs.Cycles.{DeadEdge}
use Rattle.joint_machine.specs.Managed.{Managed, handle_of, IsBridge as IsBridgeRow}
use Rattle.joint_machine.proofs.Deciding.{none_some}
use Rattle.joint_machine.proofs.HeapLemmas.{Holds-handle_of}
use Rattle.joint_machine.proofs.Members.{Contains-at, at-Contains}
use Rattle.joint_laws.specs.ManagedInvariants.{ManagedInvariant}
use Rattle.joint_laws.proofs.DriverPeerSteps.{holds-handle_of}
use Rattle.bridge_graph.specs.declared.graph.Node.{Node}
use Rattle.bridge_graph.specs.Parts.{Part, IsBridgeNode, IsPart, NodeLeads, numbers_of}
use Rattle.managed_heap.specs.Graphs.{IsDeadGraph, handle_number}
use Rattle.dead_parts.specs.Graphs.{GraphsContractionIsDeadParts, number_at}
use Rattle.dead_parts.proofs.Renumbered.{IsRenumbered, contraction_renumbered, get_back, get_map}

get_index : (xs : List ℕ) (i : ℕ) → i < length xs → slice_get xs i ≡ Some (slice_index xs i)
get_index [] i l = absurd (omega arith)
get_index (x ∷ xs) zero l = refl
get_index (x ∷ xs) (suc i) l = get_index xs i (omega arith)

rises_at : (xs : List ℕ) (x y : ℕ) → Rises xs → y < length xs → x < y → slice_index xs x < slice_index xs y
rises_at [] x y r l b = absurd (omega arith)
rises_at (a ∷ xs) x zero r l b = absurd (omega arith)
rises_at (a ∷ xs) zero (suc y) r l b = All-contains (λ z. a < z) xs (slice_index xs y) r.0 (Contains-at xs y (slice_index xs y) (get_index xs y (omega arith)))
rises_at (a ∷ xs) (suc x) (suc y) r l b = rises_at xs x y r.1 (omega arith) (omega arith)

pub index_get : (xs : List ℕ) (i x : ℕ) → slice_get xs i ≡ Some x → slice_index xs i ≡ x
index_get xs i x e = same_Some _ _ (sym (get_index xs i (slice_get_within xs i x e)) ∙ e)

node_at : (ns : List Node) (i : ℕ) → i < length ns → (n : Node) × (slice_get ns i ≡ Some n)
node_at [] i l = absurd (omega arith)
node_at (n ∷ ns) zero l = (n, refl)
node_at (n ∷ ns) (suc i) l = node_at ns i (omega arith)

held : (o : Option HNum) (h : ℕ) → handle_number o ≡ Some h → IsSome o
held None h e = absurd (none_some h e)
held (Some k) h e = refl

held_number : (o : Option HNum) → IsSome o → (h : ℕ) × (handle_number o ≡ Some h)
held_number None is = absurd (cc)
held_number (Some k) is = (k.0, refl)

module _ (s : Managed) (dead : List ℕ) (g : Part) (k : ManagedInvariant s) (p : IsPart g.nodes g.edges) (d : IsDeadGraph s dead g) where
  count : length (numbers_of g.nodes) ≡ length g.nodes
  count = length-map g.nodes (λ (n : Node). n.number.0)

  pub dead_at : (x : ℕ) → x < length g.nodes → slice_get dead x ≡ Some (number_at g x)
  dead_at x l = subst (λ (xs : List ℕ). slice_get xs x ≡ Some (number_at g x)) d.numbers (get_index (numbers_of g.nodes) x (omega (arith, count, l)))

  pub node_of_row : (m : ℕ) → Contains dead m → (x : ℕ) × (x < length g.nodes) × (number_at g x ≡ m)
  node_of_row m c =
      let t = at-Contains dead m c in
      let there = subst (λ (xs : List ℕ). slice_get xs t.0 ≡ Some m) (sym d.numbers) t.1 in
      (t.0, (let l = slice_get_within (numbers_of g.nodes) t.0 m there in omega (arith, count, l)), index_get (numbers_of g.nodes) t.0 m there)

  -- the handle of a node is the one that its row holds
  pub handle_at_node : (x : ℕ) (n : Node) → slice_get g.nodes x ≡ Some n → handle_of s (number_at g x) ≡ handle_number n.handle
  handle_at_node x n e =
      let t = get_back (handle_of s) dead x (handle_number n.handle)
      (subst (λ os. slice_get os x ≡ Some (handle_number n.handle)) d.handles (get_map (λ (n : Node). handle_number n.handle) g.nodes x n e)) in
      let same : t.0 ≡ number_at g x = same_Some _ _ (sym t.1 ∙ dead_at x (slice_get_within g.nodes x n e)) in
      subst (λ (m : ℕ). handle_of s m ≡ handle_number n.handle) same t.2

  pub renumbered : IsRenumbered (λ x. x < length g.nodes) (IsBridgeNode g.nodes) (λ m. Contains dead m × IsBridgeRow s m) (NodeLeads g.edges) (DeadEdge s dead) (number_at g)
  renumbered = record {
    rising = λ x y i j l. rises_at (numbers_of g.nodes) x y p.rising (omega (arith, count, j)) l;
    bridge_in = λ x b. slice_get_within g.nodes x b.node b.there;
    bridge_on = λ x b.
        let h = held_number b.node.handle b.held in (
          Contains-at dead x (number_at g x) (dead_at x (slice_get_within g.nodes x b.node b.there)),
          (h.0, holds-handle_of s (number_at g x) h.0 k.places (handle_at_node x b.node b.there ∙ h.1)),
        );
    bridge_back = λ x i b.
        let n = node_at g.nodes x i in
        record { node = n.0; there = n.1; held = held n.0.handle b.1.0 (sym (handle_at_node x n.0 n.1) ∙ Holds-handle_of s (number_at g x) b.1.0 b.1.1) };
    bridge_from = λ m b. node_of_row m b.0;
    edge_in = p.in_range;
    edge_on = λ x y i j e. (
      (d.edges x y (number_at g x) (number_at g y) (dead_at x i) (dead_at y j)).0 e,
      Contains-at dead x (number_at g x) (dead_at x i),
      Contains-at dead y (number_at g y) (dead_at y j),
    );
    edge_back = λ x y i j e. (d.edges x y (number_at g x) (number_at g y) (dead_at x i) (dead_at y j)).1 e.0;
    edge_from = λ m n e. node_of_row n e.2;
  }

pub a_graphs_contraction : GraphsContractionIsDeadParts
a_graphs_contraction s dead g comps heavy pairs k p d c = contraction_renumbered _ _ _ _ _ _ (renumbered s dead g k p d) comps heavy pairs c
