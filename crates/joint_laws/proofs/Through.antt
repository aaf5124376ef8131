-- References that lead through temporaries: from an end to an end, cut at the peers between, and carried from nodes to
-- peers.
use Rattle.std.proofs.Common.{◌≡◌, ℕ, List, [], ◌∷◌, refl, subst, ap}
use Rattle.std.specs.Prelude.{Contains}
use Rattle.joint_machine.specs.Components.{End, node, temporary}
use Rattle.joint_machine.specs.Control.{carried_end, carried_edges, peer_of_row}
use Rattle.joint_machine.specs.Managed.{Managed}
use Rattle.joint_machine.specs.PeerReplay.{Refers, LeadsOver}
use Rattle.joint_machine.specs.Peers.{Issued}
use Rattle.joint_machine.specs.Walks.{Walks, Reaches}
use Rattle.joint_machine.proofs.Members.{Contains-nil, Contains-map, Contains-map_cases}
use Rattle.joint_machine.proofs.WalkLemmas.{Reaches-self, Reaches-edge, Reaches-trans}

-- one end leads to the next over a reference of the list
abbrev pub RefEdge : List (End × End) → End → End → Type 0
RefEdge refs a b = Contains refs (a, b)

-- no reference leads nowhere
pub leads-none : (e : End) (ts : List ℕ) (q : ℕ) → LeadsOver [] e ts q → ⊥
leads-none e [] q w = Contains-nil (e, node q) w
leads-none e (t ∷ ts) q w = Contains-nil (e, temporary t) w.0

pub Refers-none : (p q : ℕ) → Refers [] p q → ⊥
Refers-none p q r = leads-none (node p) r.through q r.walk

-- a single reference
pub Refers-one : (refs : List (End × End)) (p q : ℕ) → Contains refs (node p, node q) → Refers refs p q
Refers-one refs p q c = record { through = []; walk = c }

-- the walk over ends that references through temporaries are
pub leads-walk : (refs : List (End × End)) (e : End) (ts : List ℕ) (q : ℕ) → LeadsOver refs e ts q → Reaches (RefEdge refs) e (node q)
leads-walk refs e [] q w = Reaches-edge (RefEdge refs) e (node q) w
leads-walk refs e (t ∷ ts) q w = Reaches-trans (RefEdge refs) e (temporary t) (node q) (Reaches-edge (RefEdge refs) e (temporary t) w.0) (leads-walk refs (temporary t) ts q w.1)

-- what an end leads to: a peer's own walk over references, and for a temporary the peer that it leads to first
abbrev Onward : List (End × End) → End → ℕ → Type 0
Onward refs (node x) b = Reaches (Refers refs) x b
Onward refs (temporary t) b = (y : ℕ) × (ts : List ℕ) × LeadsOver refs (temporary t) ts y × Reaches (Refers refs) y b

pub same-node : (x y : ℕ) → node x ≡ node y → x ≡ y
same-node x y e = cc

onward-end : (refs : List (End × End)) (e : End) (b : ℕ) → e ≡ node b → Onward refs e b
onward-end refs (node x) b e = subst (λ z. Reaches (Refers refs) x z) (same-node x b e) (Reaches-self (Refers refs) x)
onward-end refs (temporary t) b e = absurd (cc)

onward-step : (refs : List (End × End)) (e z : End) (b : ℕ) → Contains refs (e, z) → Onward refs z b → Onward refs e b
onward-step refs (node x) (node y) b c r = Reaches-trans (Refers refs) x y b (Reaches-edge (Refers refs) x y (Refers-one refs x y c)) r
onward-step refs (node x) (temporary u) b c r = Reaches-trans (Refers refs) x r.0 b (Reaches-edge (Refers refs) x r.0 (record { through = u ∷ r.1; walk = (c, r.2) })) r.3
onward-step refs (temporary t) (node y) b c r = (y, [], c, r)
onward-step refs (temporary t) (temporary u) b c r = (r.0, u ∷ r.1, (c, r.2), r.3)

onward : (refs : List (End × End)) (e : End) (rows : List End) (b : ℕ) → Walks (RefEdge refs) e rows (node b) → Onward refs e b
onward refs e [] b w = onward-end refs e b w
onward refs e (z ∷ zs) b w = onward-step refs e z b w.0 (onward refs z zs b w.1)

-- a walk over ends from a peer to a peer is a walk over what peers refer to
pub walk-Refers : (refs : List (End × End)) (a b : ℕ) → Reaches (RefEdge refs) (node a) (node b) → Reaches (Refers refs) a b
walk-Refers refs a b r = onward refs (node a) r.rows b r.walk

-- references between nodes, carried to the peers of their rows
module _ (s : Managed) (issued : List Issued) where
  abbrev carry : End × End → End × End
  carry e = (carried_end s issued e.0, carried_end s issued e.1)

  carried-leads : (edges : List (End × End)) (e : End) (ts : List ℕ) (b : ℕ) → LeadsOver edges e ts b → LeadsOver (carried_edges s issued edges) (carried_end s issued e) ts (peer_of_row s issued b)
  carried-leads edges e [] b w = Contains-map carry edges (e, node b) w
  carried-leads edges e (t ∷ ts) b w = (Contains-map carry edges (e, temporary t) w.0, carried-leads edges (temporary t) ts b w.1)

  pub carried-refers : (edges : List (End × End)) (a b : ℕ) → Refers edges a b → Refers (carried_edges s issued edges) (peer_of_row s issued a) (peer_of_row s issued b)
  carried-refers edges a b r = record { through = r.through; walk = carried-leads edges (node a) r.through b r.walk }

  -- an end that was carried there
  pub record Carried (edges : List (End × End)) (e : End) (ts : List ℕ) (q : ℕ) : Type 0 where
    pub from : End
    pub to : ℕ
    pub starts : carried_end s issued from ≡ e
    pub ends : peer_of_row s issued to ≡ q
    pub walk : LeadsOver edges from ts to

  ends-at : (x : End) (q : ℕ) → carried_end s issued x ≡ node q → (b : ℕ) × (x ≡ node b) × (peer_of_row s issued b ≡ q)
  ends-at (node b) q e = (b, refl, same-node (peer_of_row s issued b) q e)
  ends-at (temporary t) q e = absurd (cc)

  stays-at : (x : End) (t : ℕ) → carried_end s issued x ≡ temporary t → x ≡ temporary t
  stays-at (node b) t e = absurd (cc)
  stays-at (temporary u) t e = e

  leads-carried : (edges : List (End × End)) (e : End) (ts : List ℕ) (q : ℕ) → LeadsOver (carried_edges s issued edges) e ts q → Carried edges e ts q
  leads-carried edges e [] q w =
      let r = Contains-map_cases carry edges (e, node q) w in
      let last = ends-at r.0.1 q (ap (λ (z : End × End). z.1) r.2) in
      record { from = r.0.0; to = last.0; starts = ap (λ (z : End × End). z.0) r.2; ends = last.2; walk = subst (λ z. Contains edges (r.0.0, z)) last.1 r.1 }
  leads-carried edges e (t ∷ ts) q w =
      let r = Contains-map_cases carry edges (e, temporary t) w.0 in
      let rest = leads-carried edges (temporary t) ts q w.1 in
      let mid = stays-at r.0.1 t (ap (λ (z : End × End). z.1) r.2) in
      let on = stays-at rest.from t rest.starts in
      record {
        from = r.0.0;
        to = rest.to;
        starts = ap (λ (z : End × End). z.0) r.2;
        ends = rest.ends;
        walk = (subst (λ z. Contains edges (r.0.0, z)) mid r.1, subst (λ z. LeadsOver edges z ts rest.to) on rest.walk);
      }

  pub refers-carried : (edges : List (End × End)) (p q : ℕ) → Refers (carried_edges s issued edges) p q
      → (a : ℕ) × (b : ℕ) × (peer_of_row s issued a ≡ p) × (peer_of_row s issued b ≡ q) × Refers edges a b
  refers-carried edges p q r =
      let c = leads-carried edges (node p) r.through q r.walk in
      let first = ends-at c.from p c.starts in
      (first.0, c.to, first.2, c.ends, record { through = r.through; walk = subst (λ z. LeadsOver edges z r.through c.to) first.1 c.walk })
