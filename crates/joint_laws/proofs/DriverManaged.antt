-- How far the driver has come stays so at a managed entry that goes on: the dead part is as it was, so its graph is,
-- its candidates hold the same handles, and its rows lead to each other as before.
use Rattle.std.proofs.Common.{◌≡◌, ℕ, ◌↔◌, List, Some, sym, subst, ◌∙◌}
use Rattle.std.specs.Prelude.{Contains}
use Rattle.joint_machine.specs.Control.{OpenSnap, Stand, idle, snapped, contracted, weakening, marked, restoring, restored}
use Rattle.joint_machine.specs.Cycles.{IsDeadContraction, DeadEdge}
use Rattle.joint_machine.specs.Managed.{OpenCycle, Holds, IsBridge, ManagedEdge}
use Rattle.joint_machine.specs.ManagedReplay.{ManagedReplay}
use Rattle.joint_machine.specs.Peers.{strong, weak}
use Rattle.joint_machine.specs.PeerReplay.{PeerReplay}
use Rattle.joint_machine.specs.Walks.{Reaches}
use Rattle.joint_machine.proofs.WalkLemmas.{Reaches-mono}
use Rattle.joint_laws.specs.ManagedInvariants.{IsCutOff, ManagedInvariant}
use Rattle.joint_laws.specs.LinkedInvariants.{HasStrength, IsRowOf, IsOpenedAs, ForCandidates, IsMirrored, IsWeakenedBy, IsRestoredBy, LeadsToUnfreed, IsBeforeMirror, DriverInvariant}
use Rattle.joint_machine.proofs.Members.{Contains-at}
use Rattle.joint_laws.proofs.ManagedMoves.{GoesOn}
use Rattle.joint_laws.proofs.ManagedKeeping.{dead-fields, dead-held, cut_on}
use Rattle.joint_laws.proofs.DeadMirrors.{dead-walk, managed-walk}
use Rattle.joint_laws.proofs.SameGraphs.{contraction-same}
use Rattle.joint_laws.proofs.Mirrors.{mirror_edge-ends}

module _ (r u : ManagedReplay) (s : PeerReplay) (k : ManagedInvariant r.managed) (g : GoesOn r.managed u.managed) (c : OpenCycle) (o : r.managed.cycle ≡ Some c) where
  cut : IsCutOff r.managed c
  cut = k.dead c o

  after : IsCutOff u.managed c
  after = cut_on r.managed u.managed k g c o

  holds_on : (m h : ℕ) → Contains c.dead m → Holds r.managed m h → Holds u.managed m h
  holds_on m h d q = record { live = after.live m d; held = dead-held r.managed u.managed k g c o m d ∙ q.held }

  holds_back : (m h : ℕ) → Contains c.dead m → Holds u.managed m h → Holds r.managed m h
  holds_back m h d q = record { live = cut.live m d; held = sym (dead-held r.managed u.managed k g c o m d) ∙ q.held }

  bridge_same : (m : ℕ) → (Contains c.dead m × IsBridge r.managed m) ↔ (Contains c.dead m × IsBridge u.managed m)
  bridge_same m = (λ w. (w.0, (w.1.0, holds_on m w.1.0 w.0 w.1.1)), λ w. (w.0, (w.1.0, holds_back m w.1.0 w.0 w.1.1)))

  edge_on : (x y : ℕ) → DeadEdge r.managed c.dead x y → DeadEdge u.managed c.dead x y
  edge_on x y e = (record { live = after.live x e.1; field = subst (λ fs. Contains fs (Some y)) (sym (dead-fields r.managed u.managed k g c o x e.1)) e.0.field; there = after.live y e.2 }, e.1, e.2)

  edge_back : (x y : ℕ) → DeadEdge u.managed c.dead x y → DeadEdge r.managed c.dead x y
  edge_back x y e = (record { live = cut.live x e.1; field = subst (λ fs. Contains fs (Some y)) (dead-fields r.managed u.managed k g c o x e.1) e.0.field; there = cut.live y e.2 }, e.1, e.2)

  contraction_on : (comps : List (List ℕ)) (heavy : List ℕ) (xrefs : List (ℕ × ℕ)) → IsDeadContraction r.managed c.dead comps heavy xrefs → IsDeadContraction u.managed c.dead comps heavy xrefs
  contraction_on comps heavy xrefs w = contraction-same (λ m. Contains c.dead m × IsBridge r.managed m) (λ m. Contains c.dead m × IsBridge u.managed m)
      (DeadEdge r.managed c.dead) (DeadEdge u.managed c.dead) comps heavy xrefs bridge_same (λ x y. (edge_on x y, edge_back x y)) w

  row_on : (m p : ℕ) → Contains c.dead m → IsRowOf r.managed s.peers.issued m p → IsRowOf u.managed s.peers.issued m p
  row_on m p d w = record { handle = w.handle; holds = holds_on m w.handle d w.holds; row = w.row; is_issued = w.is_issued; leads = w.leads }

  row_back : (m p : ℕ) → Contains c.dead m → IsRowOf u.managed s.peers.issued m p → IsRowOf r.managed s.peers.issued m p
  row_back m p d w = record { handle = w.handle; holds = holds_back m w.handle d w.holds; row = w.row; is_issued = w.is_issued; leads = w.leads }

  mirrored_on : IsMirrored r s c → IsMirrored u s c
  mirrored_on m = record {
    comps = m.comps;
    heavy = m.heavy;
    xrefs = m.xrefs;
    contraction = contraction_on m.comps m.heavy m.xrefs m.contraction;
    stands = m.stands;
    exact = λ p q. (
      λ d. (
          let w = (m.exact p q).0 d in
          let ends = mirror_edge-ends (λ x. Contains c.dead x × IsBridge r.managed x) (DeadEdge r.managed c.dead) m.comps m.heavy m.xrefs m.contraction w.0 w.1 w.2 in
          (w.0, w.1, w.2, row_on w.0 p ends.0.0 w.3, row_on w.1 q ends.1.0 w.4)),
      λ w. (
          let ends = mirror_edge-ends (λ x. Contains c.dead x × IsBridge r.managed x) (DeadEdge r.managed c.dead) m.comps m.heavy m.xrefs m.contraction w.0 w.1 w.2 in
          (m.exact p q).1 (w.0, w.1, w.2, row_back w.0 p ends.0.0 w.3, row_back w.1 q ends.1.0 w.4)),
    );
  }

  candidate_dead : (m : ℕ) → Contains c.candidates m → Contains c.dead m
  candidate_dead m w = ((cut.candidates m).0 w).0

  candidates_on : (Q : ℕ → ℕ → Type 0) → ForCandidates r.managed c Q → ForCandidates u.managed c Q
  candidates_on Q all l m h e q = all l m h e (holds_back m h (candidate_dead m (Contains-at c.candidates l m e)) q)

  closed_on : LeadsToUnfreed r s c → LeadsToUnfreed u s c
  closed_on w a b p q ca cb walk ra rb live =
      let db = candidate_dead b cb in
      let back : Reaches (ManagedEdge r.managed) a b = managed-walk r.managed c cut a b
      (Reaches-mono (DeadEdge u.managed c.dead) (DeadEdge r.managed c.dead) edge_back a b (dead-walk u.managed c after a b db walk)) in
      w a b p q ca cb back (row_back a p (candidate_dead a ca) ra) (row_back b q db rb) live

module _ (r u : ManagedReplay) (s : PeerReplay) (k : ManagedInvariant r.managed) (g : GoesOn r.managed u.managed) where
  abbrev opened_on : (o : OpenSnap) (c : OpenCycle) → IsOpenedAs r o c → IsOpenedAs u o c
  opened_on o c w = record { cycle = g.cycle ∙ w.cycle; number = w.number }

  abbrev before_on : (o : OpenSnap) → IsBeforeMirror r s o → IsBeforeMirror u s o
  before_on o b = record {
    cycle = b.cycle;
    opened = opened_on o b.cycle b.opened;
    none = b.none;
    handles = candidates_on r u s k g b.cycle b.opened.cycle (λ l h. HasStrength s h strong) b.handles;
  }

  pub driver_goes_on : (d : Stand) → DriverInvariant r s d → DriverInvariant u s d
  driver_goes_on idle w = record { closed = g.cycle ∙ w.closed; none = w.none }
  driver_goes_on (snapped o) w = before_on o w
  driver_goes_on (contracted o comps heavy xrefs) w = record {
    before = before_on o w.before;
    contraction = contraction_on r u s k g w.before.cycle w.before.opened.cycle comps heavy xrefs w.contraction;
  }
  driver_goes_on (weakening o count seen swept) w = record {
    cycle = w.cycle;
    opened = opened_on o w.cycle w.opened;
    mirror = mirrored_on r u s k g w.cycle w.opened.cycle w.mirror;
    handles = candidates_on r u s k g w.cycle w.opened.cycle (IsWeakenedBy s count) w.handles;
  }
  driver_goes_on (marked o) w = record {
    cycle = w.cycle;
    opened = opened_on o w.cycle w.opened;
    mirror = mirrored_on r u s k g w.cycle w.opened.cycle w.mirror;
    handles = candidates_on r u s k g w.cycle w.opened.cycle (λ l h. HasStrength s h weak) w.handles;
    marking = w.marking;
    own = w.own;
    by_driver = w.by_driver;
  }
  driver_goes_on (restoring o answers) w = record {
    cycle = w.cycle;
    opened = opened_on o w.cycle w.opened;
    mirror = mirrored_on r u s k g w.cycle w.opened.cycle w.mirror;
    handles = candidates_on r u s k g w.cycle w.opened.cycle (IsRestoredBy s answers) w.handles;
  }
  driver_goes_on (restored o answers clear) w = record {
    cycle = w.cycle;
    opened = opened_on o w.cycle w.opened;
    none = w.none;
    all = w.all;
    handles = candidates_on r u s k g w.cycle w.opened.cycle (IsRestoredBy s answers) w.handles;
    closed = closed_on r u s k g w.cycle w.opened.cycle w.closed;
  }
