-- From the marks to the peers that no joint root reaches. A joint edge between two rows is an edge between their
-- nodes, and each edge between nodes comes from a joint edge, of live rows. Live rows have different nodes. So a
-- walk over joint edges from a root gives a walk over nodes, and back; a root that isn't live has no edges and
-- reaches no live row.
use Rattle.std.proofs.Common.{◌≡◌, ℕ, ◌+◌, ◌<◌, ◌↔◌, ◌⊎◌, inl, inr, Bool, true, false, List, ◌++◌, length, map, Option, Some, None, refl, sym, ap, subst, ◌∙◌, arith}
use Rattle.std.specs.Prelude.{Contains, All, slice_get}
use Rattle.std.proofs.lemmas.List.Elements.{Contains-append_left, Contains-append_right, Contains-append_cases}
use Rattle.joint_machine.specs.declared.names.MNum.{MNum}
use Rattle.joint_machine.specs.declared.names.PNum.{PNum}
use Rattle.joint_machine.specs.Heaps.{IsLive}
use Rattle.joint_machine.specs.Histories.{managed_numbers, peer_numbers}
use Rattle.joint_machine.specs.Joint.{Graph, Row, object, peer, JointEdge, IsJointRoot, IsReachedIn}
use Rattle.joint_machine.specs.Replaying.{AreUnreached}
use Rattle.joint_machine.specs.Walks.{Reached}
use Rattle.joint_machine.proofs.WalkLemmas.{Reached-keeps, Reached-start, Reached-then}
use Rattle.joint_machine.proofs.Members.{Contains-map, Contains-map_cases, All-members}
use Rattle.reachability.specs.Marks.{Leads, HasMark}
use Rattle.joint_marking.specs.Gathered.{RisesWith}
use Rattle.joint_marking.specs.Nodes.{AddsEdges, AreLive, HasEdges, HasNone, EdgesOfObjects, EdgesOfPeers, ObjectEdge, IsLiveRow, IsLiveRoot, IsRootNode, IsUnmarkedPeer, node_count, node_of}
use Rattle.joint_marking.specs.Nodes.{objects_in, targets_at}

-- the rows have the edges of both heaps, which were added one after the other
pub HasEdges-from : (g : Graph) (a b c : List (List ℕ)) → HasNone (node_count g) a → AddsEdges (EdgesOfObjects g) a b → AddsEdges (EdgesOfPeers g) b c → HasEdges g c
HasEdges-from g a b c n x y = record {
  len = y.len ∙ (x.len ∙ n.len);
  exact = λ k j. (
    λ h. elim ((y.exact k j).0 h) [
      | inl w ↦ elim ((x.exact k j).0 w) [ inl v ↦ absurd (n.none k j v) | inr v ↦ inl v ]
      | inr w ↦ inr w
    ],
    λ h. elim h [ inl w ↦ (y.exact k j).1 (inl ((x.exact k j).1 (inr w))) | inr w ↦ (y.exact k j).1 (inr w) ],
  );
}

-- the object that has a part in an edge is live
pub ObjectEdge-live : (g : Graph) (x k j : ℕ) → ObjectEdge g x k j → IsLive g.managed.heap x
ObjectEdge-live g x k j e = elim e [ inl w ↦ w.field.live | inr w ↦ w.joined.holds.live ]

-- a joint edge between the rows of two nodes
pub record RowEdge (g : Graph) (k j : ℕ) : Type 0 where
  pub from : Row
  pub to : Row
  pub edge : JointEdge g from to
  pub leaves : k ≡ node_of g from
  pub arrives : j ≡ node_of g to

rows-of : (g : Graph) (k j : ℕ) → EdgesOfObjects g k j ⊎ EdgesOfPeers g k j → RowEdge g k j
rows-of g k j e = elim e [
  | inl w ↦ elim w.1 [
    | inl f ↦ record { from = object w.0; to = object f.target; edge = f.field; leaves = f.ends.0; arrives = f.ends.1 }
    | inr t ↦ elim t.ends [
      | inl s ↦ record { from = object w.0; to = peer t.twin; edge = t.joined; leaves = s.0; arrives = s.1 }
      | inr s ↦ record { from = peer t.twin; to = object w.0; edge = t.joined; leaves = s.0; arrives = s.1 }
    ]
  ]
  | inr w ↦ record { from = peer w.0; to = peer w.1.target; edge = w.1.field; leaves = w.1.ends.0; arrives = w.1.ends.1 }
]

nodes-of : (g : Graph) (r s : Row) → JointEdge g r s → EdgesOfObjects g (node_of g r) (node_of g s) ⊎ EdgesOfPeers g (node_of g r) (node_of g s)
nodes-of g (object x) (object y) e = inl (x, inl (record { target = y; field = e; ends = (refl, refl) }))
nodes-of g (object x) (peer p) e = inl (x, inr (record { twin = p; joined = e; ends = inl (refl, refl) }))
nodes-of g (peer p) (object x) e = inl (x, inr (record { twin = p; joined = e; ends = inr (refl, refl) }))
nodes-of g (peer p) (peer q) e = inr (p, record { target = q; field = e; ends = (refl, refl) })

-- both rows of an edge are live
edge-from : (g : Graph) (r s : Row) → JointEdge g r s → IsLiveRow g r
edge-from g (object x) (object y) e = e.live
edge-from g (object x) (peer p) e = e.holds.live
edge-from g (peer p) (object x) e = e.live
edge-from g (peer p) (peer q) e = e.live

edge-to : (g : Graph) (r s : Row) → JointEdge g r s → IsLiveRow g s
edge-to g (object x) (object y) e = e.there
edge-to g (object x) (peer p) e = e.live
edge-to g (peer p) (object x) e = e.holds.live
edge-to g (peer p) (peer q) e = e.there

-- a live row's node is one, and no other live row has it
pub node-within : (g : Graph) (r : Row) → IsLiveRow g r → node_of g r < node_count g
node-within g (object x) v = omega (arith, v.made.1)
node-within g (peer p) v = omega (arith, v.made.1)

node-same : (g : Graph) (r s : Row) → IsLiveRow g r → IsLiveRow g s → node_of g r ≡ node_of g s → r ≡ s
node-same g (object x) (object y) v w e = ap object e
node-same g (object x) (peer p) v w e = absurd (omega (arith, v.made.1, w.made.0, e))
node-same g (peer p) (object x) v w e = absurd (omega (arith, w.made.1, v.made.0, e))
node-same g (peer p) (peer q) v w e = ap peer (omega (arith, e))

-- the places of a node are its targets
place-target : (xs : List ℕ) (j : ℕ) → Contains (map Some xs) (Some j) → Contains xs j
place-target xs j c = (let r = Contains-map_cases Some xs (Some j) c in let e : r.0 ≡ j = cc (r.2) in subst (Contains xs) e r.1)

-- the nodes of the listed roots
root-listed : (g : Graph) (objects : List MNum) (peers : List PNum) → ((x : ℕ) → Contains (managed_numbers objects) x ↔ IsLiveRoot g (object x))
    → ((p : ℕ) → Contains (peer_numbers peers) p ↔ IsLiveRoot g (peer p))
    → (r : Row) → IsLiveRoot g r → Contains (managed_numbers objects ++ map (λ p. objects_in g + p.0) peers) (node_of g r)
root-listed g objects peers h w (object x) r = Contains-append_left (managed_numbers objects) (map (λ p. objects_in g + p.0) peers) x ((h x).1 r)
root-listed g objects peers h w (peer p) r =
    let q = Contains-map_cases (λ (p : PNum). p.0) peers p ((w p).1 r) in
    Contains-append_right (managed_numbers objects) (map (λ p. objects_in g + p.0) peers) (objects_in g + p)
    (subst (λ t. Contains (map (λ p. objects_in g + p.0) peers) (objects_in g + t)) q.2 (Contains-map (λ (p : PNum). objects_in g + p.0) peers q.0 q.1))

pub roots-exact : (g : Graph) (objects : List MNum) (peers : List PNum) (nodes : List ℕ)
    → ((x : ℕ) → Contains (managed_numbers objects) x ↔ IsLiveRoot g (object x)) → ((p : ℕ) → Contains (peer_numbers peers) p ↔ IsLiveRoot g (peer p))
    → nodes ≡ managed_numbers objects ++ map (λ p. objects_in g + p.0) peers → (k : ℕ) → Contains nodes k ↔ IsRootNode g k
roots-exact g objects peers nodes h w e k = rw e (
  λ c. elim (Contains-append_cases (managed_numbers objects) (map (λ p. objects_in g + p.0) peers) k c) [
    | inl l ↦ record { row = object k; root = (h k).0 l; at = refl }
    | inr l ↦ (let q = Contains-map_cases (λ (p : PNum). objects_in g + p.0) peers k l in
        record { row = peer q.0.0; root = (w q.0.0).0 (Contains-map (λ (p : PNum). p.0) peers q.0 q.1); at = sym q.2 })
  ],
  λ r. subst (Contains (managed_numbers objects ++ map (λ p. objects_in g + p.0) peers)) (sym r.at) (root-listed g objects peers h w r.row r.root),
)

-- the listed peers are live
pub roots-live : (g : Graph) (peers : List PNum) → ((p : ℕ) → Contains (peer_numbers peers) p ↔ IsLiveRoot g (peer p)) → AreLive g peers
roots-live g peers w = All-members (λ p. IsLive g.peers.heap p.0) peers (λ p c. ((w p.0).0 (Contains-map (λ (p : PNum). p.0) peers p c)).0)

-- a root's node is a node
pub roots-within : (g : Graph) (nodes : List ℕ) (n : ℕ) → n ≡ node_count g → ((k : ℕ) → Contains nodes k ↔ IsRootNode g k) → All (λ y. y < n) nodes
roots-within g nodes n e h = All-members (λ y. y < n) nodes (λ y c. (let r = (h y).0 c in omega (arith, e, r.at, node-within g r.row r.root.0)))

-- the edges of the marking
abbrev pub NodeLeads : List (List ℕ) → ℕ → ℕ → Type 0
NodeLeads rows k j = Leads (length rows) (λ i. map Some (targets_at rows i)) k j

-- the node is that of a live row that a joint root reaches
record Stands (g : Graph) (k : ℕ) : Type 0 where
  row : Row
  live : IsLiveRow g row
  reached : IsReachedIn g row
  at : k ≡ node_of g row

stands-root : (g : Graph) (k : ℕ) → IsRootNode g k → Stands g k
stands-root g k r = record { row = r.row; live = r.root.0; reached = Reached-start (IsJointRoot g) (JointEdge g) r.row r.root.1; at = r.at }

stands-then : (g : Graph) (k j : ℕ) → RowEdge g k j → Stands g k → Stands g j
stands-then g k j e s =
    let same : s.row ≡ e.from = node-same g s.row e.from s.live (edge-from g e.from e.to e.edge) (sym s.at ∙ e.leaves) in
    record {
      row = e.to;
      live = edge-to g e.from e.to e.edge;
      reached = Reached-then (IsJointRoot g) (JointEdge g) e.from e.to (subst (IsReachedIn g) same s.reached) e.edge;
      at = e.arrives;
    }

-- a live row is reached exactly if its node is
reached-row : (g : Graph) (rows : List (List ℕ)) (roots : List ℕ) → HasEdges g rows → ((k : ℕ) → Contains roots k ↔ IsRootNode g k)
    → (r : Row) → IsLiveRow g r → Reached (Contains roots) (NodeLeads rows) (node_of g r) → IsReachedIn g r
reached-row g rows roots h s r v m =
    let there : Stands g (node_of g r) = Reached-keeps (Contains roots) (NodeLeads rows) (Stands g) (λ k c. stands-root g k ((s k).0 c))
    (λ k j l w. stands-then g k j (rows-of g k j ((h.exact k j).0 (place-target (targets_at rows k) j l.1))) w) (node_of g r) m in
    subst (IsReachedIn g) (node-same g there.row r there.live v (sym there.at)) there.reached

reached-node : (g : Graph) (rows : List (List ℕ)) (roots : List ℕ) → HasEdges g rows → ((k : ℕ) → Contains roots k ↔ IsRootNode g k)
    → (r : Row) → IsReachedIn g r → IsLiveRow g r → Reached (Contains roots) (NodeLeads rows) (node_of g r)
reached-node g rows roots h s = Reached-keeps (IsJointRoot g) (JointEdge g) (λ r. IsLiveRow g r → Reached (Contains roots) (NodeLeads rows) (node_of g r))
    (λ r root v. Reached-start (Contains roots) (NodeLeads rows) (node_of g r) ((s (node_of g r)).1 (record { row = r; root = (v, root); at = refl })))
    (λ r t e w v. Reached-then (Contains roots) (NodeLeads rows) (node_of g r) (node_of g t) (w (edge-from g r t e))
    (omega (arith, node-within g r (edge-from g r t e), h.len), Contains-map Some (targets_at rows (node_of g r)) (node_of g t) ((h.exact (node_of g r) (node_of g t)).1 (nodes-of g r t e))))

-- so the live peers whose nodes aren't marked are those that no joint root reaches
pub AreUnreached-from : (g : Graph) (rows : List (List ℕ)) (roots : List ℕ) (marks : List Bool) (ps : List ℕ) → HasEdges g rows
    → ((k : ℕ) → Contains roots k ↔ IsRootNode g k) → ((k : ℕ) → HasMark marks k ↔ Reached (Contains roots) (NodeLeads rows) k)
    → RisesWith (IsUnmarkedPeer g marks) ps → AreUnreached g ps
AreUnreached-from g rows roots marks ps h s m f = record {
  rise = f.rises;
  exact = λ p. (
    λ c. (let w = (f.exact p).0 c in (w.0, λ r. w.1 ((m (objects_in g + p)).1 (reached-node g rows roots h s (peer p) r w.0)))),
    λ w. (f.exact p).1 (w.0, λ k. w.1 (reached-row g rows roots h s (peer p) w.0 ((m (objects_in g + p)).0 k))),
  );
}

-- and each live peer is listed or reached, since its node is marked or isn't
mark-cases : (o : Option Bool) → (o ≡ Some true) ⊎ (o ≡ Some true → ⊥)
mark-cases None = inr (λ e. cc)
mark-cases (Some true) = inl refl
mark-cases (Some false) = inr (λ e. cc)

pub listed-or-reached : (g : Graph) (rows : List (List ℕ)) (roots : List ℕ) (marks : List Bool) (ps : List ℕ) → HasEdges g rows
    → ((k : ℕ) → Contains roots k ↔ IsRootNode g k) → ((k : ℕ) → HasMark marks k ↔ Reached (Contains roots) (NodeLeads rows) k)
    → RisesWith (IsUnmarkedPeer g marks) ps → (p : ℕ) → IsLive g.peers.heap p → Contains ps p ⊎ IsReachedIn g (peer p)
listed-or-reached g rows roots marks ps h s m f p v = elim (mark-cases (slice_get marks (objects_in g + p))) [
  | inl k ↦ inr (reached-row g rows roots h s (peer p) v ((m (objects_in g + p)).0 k))
  | inr n ↦ inl ((f.exact p).1 (v, n))
]
