-- The driver's own marking marks only what was seen since the snapshot. At its begin each of its roots is seen: all
-- candidates' handles are weak, so a strong handle is raw, or nobody's, or held by a row that was seen. An edge of its
-- begin from a seen peer leads to a seen one: a field is a joint edge, and a mirrored reference is a walk over managed
-- fields between the candidates. Later a peer that is seen for the first time was in no slot before, so its fields are
-- those of the begin.
use Rattle.std.proofs.Common.{◌≡◌, ℕ, suc, ◌<◌, inl, inr, false, List, [], ◌∷◌, Option, Some, None, refl, sym, ap, subst, ◌∙◌}
use Rattle.std.specs.Prelude.{Contains, slice_get, if◌then◌else◌}
use Rattle.joint_machine.specs.Headline.{DriverBeginsAt, IsMadeBefore}
use Rattle.joint_machine.specs.Heaps.{IsMade, IsLive, InSlot, fields_of, numbered_at}
use Rattle.joint_machine.specs.Joint.{Joint, Row, object, peer, JointEdge, IsJoined, IsJointRoot, IsReached}
use Rattle.joint_machine.specs.Linked.{Linkage}
use Rattle.joint_machine.specs.Managed.{OpenCycle, Holds, ManagedEdge}
use Rattle.joint_machine.specs.Peers.{Issued, Hold, held, raw, Strength, strong, weak, is_strong}
use Rattle.joint_machine.specs.PeerReplay.{TableRow, Marking, IsMarkingRoot, MarkingEdge, IsMarked, strong_peers, Refers}
use Rattle.joint_machine.specs.Run.{Moment}
use Rattle.joint_machine.specs.Walks.{Reaches}
use Rattle.joint_machine.proofs.WalkLemmas.{Reached-start, Reached-keeps, Reaches-keeps}
use Rattle.joint_laws.specs.LinkedInvariants.{HasStrength, IsRowOf, IsMirrored, ForCandidates}
use Rattle.joint_laws.specs.PeerInvariants.{IsTabled, IsIssued}
use Rattle.joint_machine.proofs.Members.{Contains-nil, Contains-cons_cases, at-Contains}
use Rattle.joint_laws.proofs.PeerEntries.{peer_of-issued}
use Rattle.joint_laws.proofs.DeadMirrors.{mirror_edge-managed}
use Rattle.joint_laws.proofs.DriverSteps.{strength-one}
use Rattle.joint_laws.proofs.JointRuns.{Stands, state_of}
use Rattle.joint_laws.proofs.Watching.{IsSeen, WasSeen, IsWatched, last-seen}
use Rattle.joint_laws.proofs.JointFlags.{removed-at}

-- which strong handle a root is of
abbrev IsListedBy : List Issued → List (Option TableRow) → ℕ → Type 0
IsListedBy issued table p = (k : ℕ) × (row : TableRow) × (i : Issued) × (slice_get table k ≡ Some (Some row)) × (row.strength ≡ strong) × (slice_get issued k ≡ Some i) × (i.peer ≡ p)

listed-at : (issued : List Issued) (table : List (Option TableRow)) (p : ℕ) → Contains (strong_peers issued table) p → IsListedBy issued table p
listed-at [] table p c = absurd (Contains-nil p c)
listed-at (j ∷ issued) [] p c = absurd (Contains-nil p c)
listed-at (j ∷ issued) (None ∷ table) p c = let w = listed-at issued table p c in (suc w.0, w.1, w.2, w.3, w.4, w.5, w.6)
listed-at (j ∷ issued) (Some r ∷ table) p c = by r.strength refl c (λ d. listed-at issued table p d)
  where
    by : (x : Strength) → r.strength ≡ x → Contains (if is_strong x then j.peer ∷ strong_peers issued table else strong_peers issued table) p
        → (Contains (strong_peers issued table) p → IsListedBy issued table p) → IsListedBy (j ∷ issued) (Some r ∷ table) p
    by weak e d rest = let w = rest d in (suc w.0, w.1, w.2, w.3, w.4, w.5, w.6)
    by strong e d rest = elim (Contains-cons_cases j.peer (strong_peers issued table) p d) [
      | inl q ↦ (0, r, j, refl, e, refl, q)
      | inr t ↦ let w = rest t in (suc w.0, w.1, w.2, w.3, w.4, w.5, w.6)
    ]

-- the set that is watched, at a state
module _ (s : Linkage) (w : Stands s) (past : List Moment) (a : ℕ) (c : OpenCycle) (o : s.managed.managed.cycle ≡ Some c) (watched : IsWatched past a c.candidates (state_of s w)) where
  abbrev j : Joint
  j = state_of s w

  abbrev Seen : Row → Type 0
  Seen x = WasSeen past a x

  now : (x : Row) → IsReached j x → Seen x
  now x r n = n (last-seen past a j x watched.last watched.started r)

  pub row-joined : (m p : ℕ) → IsRowOf s.managed.managed s.peer.peers.issued m p → IsLive s.peer.peers.heap p → IsJoined j.graph m p
  row-joined m p r l = record { handle = r.handle; holds = r.holds; leads = peer_of-issued s.peer.peers.issued r.handle r.row r.is_issued ∙ ap Some r.leads; live = l }

  -- along managed fields
  managed-seen : (x y : ℕ) → Reaches (ManagedEdge s.managed.managed) x y → Seen (object x) → Seen (object y)
  managed-seen x y walk u = Reaches-keeps (ManagedEdge s.managed.managed) (λ z. Seen (object z)) (λ v z e q. watched.closed (object v) (object z) q e) x y walk u

  -- along a mirrored reference
  pub reference-seen : IsMirrored s.managed s.peer c → (p q : ℕ) → Refers s.peer.refs p q → IsLive s.peer.peers.heap p → IsLive s.peer.peers.heap q → Seen (peer p) → Seen (peer q)
  reference-seen m p q r lp lq u =
      let e = (m.exact p q).0 r in
      let from = watched.closed (peer p) (object e.0) u (row-joined e.0 p e.3 lp) in
      let along = managed-seen e.0 e.1 (mirror_edge-managed s.managed.managed c (w.kept.managed.managed.dead c o) m.comps m.heavy m.xrefs m.contraction e.0 e.1 e.2) from in
      watched.closed (object e.1) (peer q) along (row-joined e.1 q e.4 lq)

  -- a handle of the table isn't removed
  not_removed : (h : ℕ) (row : TableRow) → IsTabled s.peer.table h row → numbered_at w.flags.removed h ≡ Some false
  not_removed h row t = ap (λ z. numbered_at z h) w.agrees.removed ∙ removed-at s.peer.table h (Some row) t

  -- the peer of a strong handle was seen, while all candidates' handles are weak
  pub strong-seen : ForCandidates s.managed.managed c (λ l h. HasStrength s.peer h weak) → (h : ℕ) (row : TableRow) (i : Issued)
      → IsTabled s.peer.table h row → row.strength ≡ strong → IsIssued s.peer.peers.issued h i → Seen (peer i.peer)
  strong-seen all h row i t st e = by i.hold refl
    where
      live : IsLive s.peer.peers.heap i.peer
      live = w.kept.peer.handles.uncleared h row i t e (w.kept.peer.handles.sure h row t st)

      owned : (m : ℕ) → Holds s.managed.managed m h → Seen (peer i.peer)
      owned m q =
          let out : Contains c.candidates m → ⊥ = λ cm. (let at = at-Contains c.candidates m cm in strength-one s.peer h (row, t, st) (all at.0 m h at.1 q)) in
          let u = watched.bridges m h q out in
          watched.closed (object m) (peer i.peer) u (record { handle = h; holds = q; leads = peer_of-issued s.peer.peers.issued h i e; live = live })

      by : (x : Hold) → i.hold ≡ x → Seen (peer i.peer)
      by raw f = now (peer i.peer) (Reached-start (IsJointRoot j.graph) (JointEdge j.graph) (peer i.peer)
          (inr (inl (record {
            handle = h;
            row = i;
            is_handle = record { issued = e; kept = not_removed h row t };
            raw_hold = f;
            strong_made = sym (w.kept.peer.handles.raws h row i t e f)
                ∙ st;
            leads = refl;
          }))))
      by held f = λ n. now (peer i.peer) (Reached-start (IsJointRoot j.graph) (JointEdge j.graph) (peer i.peer)
          (inr (inr (record { handle = h; row = i; is_handle = record { issued = e; kept = not_removed h row t }; held_hold = f; loose = λ m q. owned m q n; leads = refl })))) n

  pub strong_peer-seen : ForCandidates s.managed.managed c (λ l h. HasStrength s.peer h weak) → (p : ℕ) → Contains (strong_peers s.peer.peers.issued s.peer.table) p → Seen (peer p)
  strong_peer-seen all p d =
      let l = listed-at s.peer.peers.issued s.peer.table p d in
      subst (λ z. Seen (peer z)) l.6 (strong-seen all (suc l.0) l.1 l.2 l.3 l.4 l.5)

  pub slot-seen : (p : ℕ) → InSlot s.peer.peers.heap p → Seen (peer p)
  slot-seen p i = now (peer p) (Reached-start (IsJointRoot j.graph) (JointEdge j.graph) (peer p) (inl i))

-- what the own marking has seen
pub record IsMarkWatched (past : List Moment) (a : ℕ) (c : OpenCycle) (s : Linkage) (mk : Marking) : Type 0 where
  pub begin : ℕ
  pub begins : DriverBeginsAt past begin mk.number
  pub later_on : a < begin
  pub made_then : (p : ℕ) → IsMadeBefore past begin p → IsMade mk.heap p
  pub old : (p : ℕ) → IsMade mk.heap p → IsLive s.peer.peers.heap p → IsLive mk.heap p
  pub rows : (m p : ℕ) → Contains c.candidates m → IsRowOf s.managed.managed s.peer.peers.issued m p → IsMade mk.heap p
  pub refs : mk.refs ≡ s.peer.refs
  pub roots : (p : ℕ) → IsMarkingRoot mk p → WasSeen past a (peer p)
  pub edges : (p q : ℕ) → WasSeen past a (peer p) → MarkingEdge mk p q → WasSeen past a (peer q)
  pub fields : (p : ℕ) → IsLive mk.heap p → (IsSeen past a (peer p) → ⊥) → fields_of mk.heap p ≡ fields_of s.peer.peers.heap p

-- so it marks only what was seen
pub marked-seen : (past : List Moment) (a : ℕ) (c : OpenCycle) (s : Linkage) (mk : Marking) → IsMarkWatched past a c s mk → (p : ℕ) → IsMarked mk p → WasSeen past a (peer p)
marked-seen past a c s mk k p m = Reached-keeps (IsMarkingRoot mk) (MarkingEdge mk) (λ x. WasSeen past a (peer x)) k.roots (λ x y e q. k.edges x y q e) p m.reached
