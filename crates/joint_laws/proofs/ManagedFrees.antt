-- A walk from the joint roots never comes to a row that a snapshot or a resolution frees. Before a snapshot each
-- managed row on the walk is reached from a slot or from a row that holds a handle: fields lead on, and a peer leads
-- only to a row that holds a handle. Before a resolution each is outside the dead part, or a staying candidate leads to
-- it: no slot and no field leads in, and a peer, which is unfreed, leads only to a candidate that stays.
use Rattle.std.proofs.Common.{◌≡◌, ℕ, ◌⊎◌, inl, inr, List, Some}
use Rattle.std.specs.Prelude.{Contains}
use Rattle.joint_machine.specs.Walks.{Reaches}
use Rattle.joint_machine.specs.Cycles.{IsSnapshot, IsResolution}
use Rattle.joint_machine.specs.Joint.{Joint, Graph, Row, object, peer, JointEdge, IsJoined, IsJointRoot, IsReached}
use Rattle.joint_machine.specs.Managed.{OpenCycle, IsBridge, IsManagedRoot, ManagedEdge, IsManagedReached, IsBridgeReached}
use Rattle.joint_machine.specs.Run.{IsKept}
use Rattle.joint_machine.proofs.WalkLemmas.{Reached-keeps, Reached-start, Reached-then, Reaches-self, Reaches-then}
use Rattle.joint_laws.specs.ManagedInvariants.{IsCutOff, ManagedInvariant}
use Rattle.joint_laws.specs.FreeingLaws.{SnapshotFreesUnreached, ResolutionFreesUnreached}
use Rattle.joint_machine.proofs.Members.{Contains-decided}

-- the row of a joined pair holds a handle
joined-bridge : (g : Graph) (m p : ℕ) → IsJoined g m p → IsBridge g.managed m
joined-bridge g m p e = (e.handle, e.holds)

module _ (j : Joint) (k : ℕ) (freed candidates dead : List ℕ) (s : IsSnapshot j.graph.managed k freed candidates dead) where
  abbrev Reaching : Row → Type 0
  Reaching (object x) = IsManagedReached j.graph.managed x ⊎ IsBridgeReached j.graph.managed x
  Reaching (peer p) = Unit {0}

  first_reaching : (x : Row) → IsJointRoot j.graph x → Reaching x
  first_reaching (object x) r = inl (Reached-start (IsManagedRoot j.graph.managed) (ManagedEdge j.graph.managed) x r)
  first_reaching (peer p) r = tt

  next_reaching : (x y : Row) → JointEdge j.graph x y → Reaching x → Reaching y
  next_reaching (object x) (object y) e q = elim q [
    | inl r ↦ inl (Reached-then (IsManagedRoot j.graph.managed) (ManagedEdge j.graph.managed) x y r e)
    | inr r ↦ inr (Reached-then (IsBridge j.graph.managed) (ManagedEdge j.graph.managed) x y r e)
  ]
  next_reaching (object x) (peer p) e q = tt
  next_reaching (peer p) (object y) e q = inr (Reached-start (IsBridge j.graph.managed) (ManagedEdge j.graph.managed) y (joined-bridge j.graph y p e))
  next_reaching (peer p) (peer r) e q = tt

  pub snapshot-unreached : (m : ℕ) → Contains freed m → IsReached j (object m) → ⊥
  snapshot-unreached m c r =
      let f = (s.frees m).0 c in
      elim (Reached-keeps (IsJointRoot j.graph) (JointEdge j.graph) Reaching first_reaching next_reaching (object m) r) [
        | inl t ↦ f.1 t
        | inr t ↦ f.2 t
      ]

module _ (j : Joint) (c : OpenCycle) (freed : List ℕ) (k : ManagedInvariant j.graph.managed) (o : j.graph.managed.cycle ≡ Some c) (s : IsResolution j.graph.managed c.dead (IsKept j c) freed) where
  cut : IsCutOff j.graph.managed c
  cut = k.dead c o

  -- outside the dead part, or led to by a candidate that stays
  abbrev Staying : Row → Type 0
  Staying (object x) = (Contains c.dead x → ⊥) ⊎ ((m : ℕ) × IsKept j c m × Reaches (ManagedEdge j.graph.managed) m x)
  Staying (peer p) = Unit {0}

  first_staying : (x : Row) → IsJointRoot j.graph x → Staying x
  first_staying (object x) r = inl (cut.unnamed x r)
  first_staying (peer p) r = tt

  joined-stays : (x p : ℕ) → IsJoined j.graph x p → Contains c.dead x → IsKept j c x
  joined-stays x p e d = record {
    candidate = (cut.candidates x).1 (d, joined-bridge j.graph x p e);
    handle = e.handle;
    holds = e.holds;
    peer = p;
    leads = e.leads;
    unfreed = e.live.kept;
  }

  next_staying : (x y : Row) → JointEdge j.graph x y → Staying x → Staying y
  next_staying (object x) (object y) e q = elim q [
    | inl out ↦ inl (cut.unheld x y e.live out e.field)
    | inr r ↦ inr (r.0, r.1, Reaches-then (ManagedEdge j.graph.managed) r.0 x y r.2 e)
  ]
  next_staying (object x) (peer p) e q = tt
  next_staying (peer p) (object y) e q = elim (Contains-decided c.dead y) [
    | inl d ↦ inr (y, joined-stays y p e d, Reaches-self (ManagedEdge j.graph.managed) y)
    | inr out ↦ inl out
  ]
  next_staying (peer p) (peer r) e q = tt

  pub resolution-unreached : (m : ℕ) → Contains freed m → IsReached j (object m) → ⊥
  resolution-unreached m f r =
      let q = (s.frees m).0 f in
      elim (Reached-keeps (IsJointRoot j.graph) (JointEdge j.graph) Staying first_staying next_staying (object m) r) [
        | inl out ↦ out q.0
        | inr t ↦ q.1 t
      ]

pub snapshot_frees_unreached : SnapshotFreesUnreached
snapshot_frees_unreached j k m freed candidates dead s c r = snapshot-unreached j k freed candidates dead s m c r

pub resolution_frees_unreached : ResolutionFreesUnreached
resolution_frees_unreached j c m freed k o s f r = resolution-unreached j c freed k o s m f r
