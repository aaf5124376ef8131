-- While a marking is open each peer that the joint graph reaches is spared. Along a walk from the joint roots, each
-- peer is spared, and from each managed row of the dead part it is known that each candidate that it leads to, whose
-- peer is unfreed, has a spared peer. A managed stretch that begins in a slot stays outside the dead part and ends at a
-- strong handle. One that begins at a peer inside the dead part leads from a candidate to a candidate: either that
-- one's handle is strong, or it is weak, and then the mirror stands and references follow the stretch.
use Rattle.std.proofs.Common.{false, ◌≡◌, ℕ, ◌≤◌, ◌⊎◌, inl, inr, List, [], length, Option, Some, None, refl, sym, ap, subst, ◌∙◌, arith}
use Rattle.std.specs.Prelude.{Contains}
use Rattle.std.proofs.lemmas.Option.{same_Some, slice_get_within}
use Rattle.joint_machine.specs.Control.{Doing, Stand, idle, snapped, contracted, weakening, marked, restoring, restored}
use Rattle.joint_machine.specs.Cycles.{DeadEdge}
use Rattle.joint_machine.specs.Heaps.{IsLive, numbered_at}
use Rattle.joint_machine.specs.Joint.{Graph, JointMarking, Row, object, peer, JointEdge, IsJoined, IsJointRoot, IsRawRoot, IsLooseRoot, IsReached}
use Rattle.joint_machine.specs.Managed.{Managed, OpenCycle, IsBridge, ManagedEdge, candidates_of}
use Rattle.joint_machine.specs.ManagedReplay.{ManagedReplay}
use Rattle.joint_machine.specs.Peers.{Issued, Strength, strong, weak, peer_of}
use Rattle.joint_machine.specs.PeerReplay.{PeerReplay, Marking}
use Rattle.joint_machine.specs.Walks.{Reaches}
use Rattle.joint_machine.proofs.WalkLemmas.{Reached-keeps, Reaches-keeps, Reaches-self, Reaches-edge, Reaches-trans}
use Rattle.joint_laws.specs.JointAgreement.{IsInTable, AreFlags, Flags, joint_as}
use Rattle.joint_laws.specs.ManagedInvariants.{IsCutOff}
use Rattle.joint_laws.specs.Mirrors.{MirrorEdge}
use Rattle.joint_laws.specs.PeerInvariants.{IsIssued, IsSpared, MarkingInvariant}
use Rattle.joint_laws.specs.LinkedInvariants.{HasStrength, IsRowOf, DriverInvariant, IsMirrored, IsRestoredBy}
use Rattle.joint_machine.proofs.Members.{Contains-nil, Contains-decided, at-Contains}
use Rattle.joint_machine.proofs.Deciding.{none_some}
use Rattle.joint_laws.proofs.DeadMirrors.{candidates-mirrored}
use Rattle.joint_laws.proofs.Mirrors.{mirror_edge-ends}
use Rattle.joint_laws.proofs.Sparing.{spared-next}
use Rattle.joint_laws.proofs.LinkedQuiet.{BothInvariants}
use Rattle.joint_machine.specs.Told.{Answer}
use Rattle.joint_laws.proofs.HandlesAlike.{replaced-peer}
use Rattle.joint_laws.proofs.JointFlags.{kept-at}

-- what a handle was issued on, by where it leads
pub peer_of-row : (issued : List Issued) (h p : ℕ) → peer_of issued h ≡ Some p → (i : Issued) × IsIssued issued h i × (i.peer ≡ p)
peer_of-row issued h p e = by (numbered_at issued h) refl e
  where
    by : (o : Option Issued) → numbered_at issued h ≡ o → elim o [ None ↦ None | Some i ↦ Some i.peer ] ≡ Some p → (i : Issued) × IsIssued issued h i × (i.peer ≡ p)
    by None q f = absurd (none_some p f)
    by (Some i) q f = (i, q, same_Some i.peer p f)

pub joined-row : (m : Managed) (s : PeerReplay) (flags : Flags) (jm : Option JointMarking) (x p : ℕ) → IsJoined (joint_as m s flags jm).graph x p → IsRowOf m s.peers.issued x p
joined-row m s flags jm x p e = let i = peer_of-row s.peers.issued e.handle p e.leads in record { handle = e.handle; holds = e.holds; row = i.0; is_issued = i.1; leads = i.2 }

module _ (r : ManagedReplay) (s : PeerReplay) (ds : List Doing) (d : Stand) (k : BothInvariants r s ds d) (mk : Marking) (open_now : s.marking ≡ Some mk) where
  mark : MarkingInvariant s.peers.heap s.peers.issued s.table s.refs mk
  mark = k.peer.marking mk open_now

  strong-spared : (h p : ℕ) (i : Issued) → HasStrength s h strong → IsIssued s.peers.issued h i → i.peer ≡ p → IsSpared mk p
  strong-spared h p i t e l = subst (IsSpared mk) l (mark.strong_ones h t.0 i t.1 t.2 e)

  row-spared : (b q : ℕ) (w : IsRowOf r.managed s.peers.issued b q) → HasStrength s w.handle strong → IsSpared mk q
  row-spared b q w t = strong-spared w.handle q w.row t w.is_issued w.leads

  -- along mirror edges references lead on from unfreed and spared peers to such peers
  abbrev Fine : ℕ → Type 0
  Fine x = (y : ℕ) → IsRowOf r.managed s.peers.issued x y → IsLive s.peers.heap y × IsSpared mk y

  one_peer : (x y z : ℕ) → IsRowOf r.managed s.peers.issued x y → IsRowOf r.managed s.peers.issued x z → y ≡ z
  one_peer x y z v w =
      let handles : v.handle ≡ w.handle = same_Some v.handle w.handle (same_Some (Some v.handle) (Some w.handle) (sym v.holds.held ∙ w.holds.held)) in
      let rows : v.row ≡ w.row = same_Some v.row w.row (sym v.is_issued ∙ (ap (λ n. numbered_at s.peers.issued n) handles ∙ w.is_issued)) in
      sym v.leads ∙ (ap (λ (i : Issued). i.peer) rows ∙ w.leads)

  module _ (c : OpenCycle) (o : r.managed.cycle ≡ Some c) where
    cut : IsCutOff r.managed c
    cut = k.managed.managed.dead c o

    by_mirror : IsMirrored r s c → (a b p q : ℕ) → Contains c.candidates a → Contains c.candidates b → Reaches (ManagedEdge r.managed) a b
        → IsRowOf r.managed s.peers.issued a p → IsRowOf r.managed s.peers.issued b q → IsLive s.peers.heap p → IsSpared mk p → IsSpared mk q
    by_mirror m a b p q ca cb walk ra rb live spared =
        (Reaches-keeps (MirrorEdge m.comps m.xrefs) Fine step a b (candidates-mirrored r.managed c cut m.comps m.heavy m.xrefs m.contraction a b ca cb walk)
        (λ y w. subst (λ z. IsLive s.peers.heap z × IsSpared mk z) (one_peer a p y ra w) (live, spared)) q rb).1
      where
        step : (x y : ℕ) → MirrorEdge m.comps m.xrefs x y → Fine x → Fine y
        step x y e fine z v =
            let ends = mirror_edge-ends (λ n. Contains c.dead n × IsBridge r.managed n) (DeadEdge r.managed c.dead) m.comps m.heavy m.xrefs m.contraction x y e in
            let i = k.owners.held_ones x ends.0.1.0 ends.0.1.1 in
            let rx : IsRowOf r.managed s.peers.issued x i.0.peer = record { handle = ends.0.1.0; holds = ends.0.1.1; row = i.0; is_issued = i.1; leads = refl } in
            let f = fine i.0.peer rx in
            let reference = (m.exact i.0.peer z).1 (x, y, e, rx, v) in
            (k.peer.references.live i.0.peer z reference f.0, spared-next mk i.0.peer z (mark.references i.0.peer z f.0 reference) f.1)

    restored-spared : (answers : List Answer) (l b q : ℕ) (w : IsRowOf r.managed s.peers.issued b q) → IsRestoredBy s answers l w.handle
        → IsLive s.peers.heap q → (length answers ≤ l → HasStrength s w.handle weak → IsSpared mk q) → IsSpared mk q
    restored-spared answers l b q w t live later = elim t [
      | inl u ↦ strong-spared u.0 q u.2.new u.2.strong_one u.2.is (replaced-peer s w.handle u.0 w.row u.2 w.is_issued ∙ w.leads)
      | inr u ↦ elim u [
        | inl g ↦ absurd (live.kept (subst (λ z. Contains s.peers.heap.freed z) w.leads (g.1.freed w.row w.is_issued)))
        | inr g ↦ later g.0 g.1
      ]
    ]

    same_cycle : (e : OpenCycle) → r.managed.cycle ≡ Some e → e ≡ c
    same_cycle e f = same_Some e c (sym f ∙ o)

    -- a candidate that a spared, unfreed peer's candidate leads to
    pub candidate-spared : (x : Stand) → DriverInvariant r s x → (a b p q : ℕ) → Contains c.candidates a → Contains c.candidates b → Reaches (ManagedEdge r.managed) a b
        → IsRowOf r.managed s.peers.issued a p → IsRowOf r.managed s.peers.issued b q → IsLive s.peers.heap p → IsLive s.peers.heap q → IsSpared mk p → IsSpared mk q
    candidate-spared idle v a b p q ca cb walk ra rb lp lq sp = absurd (none_some c (sym v.closed ∙ o))
    candidate-spared (snapped op) v a b p q ca cb walk ra rb lp lq sp =
        let at = at-Contains v.cycle.candidates b (subst (λ (z : OpenCycle). Contains z.candidates b) (sym (same_cycle v.cycle v.opened.cycle)) cb) in
        row-spared b q rb (v.handles at.0 b rb.handle at.1 rb.holds)
    candidate-spared (contracted op comps heavy xrefs) v a b p q ca cb walk ra rb lp lq sp =
        let at = at-Contains v.before.cycle.candidates b (subst (λ (z : OpenCycle). Contains z.candidates b) (sym (same_cycle v.before.cycle v.before.opened.cycle)) cb) in
        row-spared b q rb (v.before.handles at.0 b rb.handle at.1 rb.holds)
    candidate-spared (weakening op count seen sw) v a b p q ca cb walk ra rb lp lq sp = by_mirror
        (subst (λ z. IsMirrored r s z) (same_cycle v.cycle v.opened.cycle) v.mirror) a b p q ca cb walk ra rb lp sp
    candidate-spared (marked op) v a b p q ca cb walk ra rb lp lq sp = by_mirror (subst (λ z. IsMirrored r s z) (same_cycle v.cycle v.opened.cycle) v.mirror) a b p q ca cb walk ra rb lp sp
    candidate-spared (restoring op answers) v a b p q ca cb walk ra rb lp lq sp = by_mirror (subst (λ z. IsMirrored r s z) (same_cycle v.cycle v.opened.cycle) v.mirror) a b p q ca cb walk ra rb lp sp
    candidate-spared (restored op answers clear) v a b p q ca cb walk ra rb lp lq sp =
        let at = at-Contains v.cycle.candidates b (subst (λ (z : OpenCycle). Contains z.candidates b) (sym (same_cycle v.cycle v.opened.cycle)) cb) in
        restored-spared answers at.0 b q rb (v.handles at.0 b rb.handle at.1 rb.holds) lq (λ l t. absurd (omega (arith, l, v.all, slice_get_within v.cycle.candidates at.0 b at.1)))

  -- what is known of each row on a walk
  abbrev Known : Row → Type 0
  Known (peer p) = IsSpared mk p
  Known (object m) = (c : OpenCycle) → r.managed.cycle ≡ Some c → Contains c.dead m → (b q : ℕ) → Contains c.candidates b
      → Reaches (ManagedEdge r.managed) m b → IsRowOf r.managed s.peers.issued b q → IsLive s.peers.heap q → IsSpared mk q

  module _ (flags : Flags) (jm : Option JointMarking) (fl : AreFlags s flags) where
    abbrev graph : Graph
    graph = (joint_as r.managed s flags jm).graph

    strength-cases : (h : ℕ) (w : IsInTable s h) → HasStrength s h strong ⊎ HasStrength s h weak
    strength-cases h w = by w.0.strength refl
      where
        by : (x : Strength) → w.0.strength ≡ x → HasStrength s h strong ⊎ HasStrength s h weak
        by strong e = inl (w.0, w.1, e)
        by weak e = inr (w.0, w.1, e)

    tabled : (h : ℕ) → numbered_at flags.removed h ≡ Some false → IsInTable s h
    tabled h e = kept-at s.table h (ap (λ z. numbered_at z h) (sym fl) ∙ e)

    raw-spared : (p : ℕ) → IsRawRoot graph p → IsSpared mk p
    raw-spared p e =
        let t = tabled e.handle e.is_handle.kept in
        strong-spared e.handle p e.row (t.0, t.1, k.peer.handles.raws e.handle t.0 e.row t.1 e.is_handle.issued e.raw_hold ∙ e.strong_made) e.is_handle.issued e.leads

    loose-spared : (p : ℕ) → IsLooseRoot graph p → IsSpared mk p
    loose-spared p e = elim (strength-cases e.handle (tabled e.handle e.is_handle.kept)) [
      | inl w ↦ strong-spared e.handle p e.row w e.is_handle.issued e.leads
      | inr w ↦ (let x = k.owners.weak_ones e.handle w (e.row, e.is_handle.issued, e.held_hold) in absurd (e.loose x.0 x.1))
    ]

    first_known : (x : Row) → IsJointRoot graph x → Known x
    first_known (object m) root = λ c o dm b q cb walk w l. absurd ((k.managed.managed.dead c o).unnamed m root dm)
    first_known (peer p) root = elim root [
      | inl i ↦ mark.slots p i
      | inr t ↦ elim t [ inl e ↦ raw-spared p e | inr e ↦ loose-spared p e ]
    ]

    candidate-by : (x : Option OpenCycle) → r.managed.cycle ≡ x → (m p : ℕ) → Contains (elim x [ None ↦ [] | Some c ↦ c.candidates ]) m
        → IsRowOf r.managed s.peers.issued m p → IsLive s.peers.heap p → Known (object m) → IsSpared mk p
    candidate-by None e m p c w l known = absurd (Contains-nil m c)
    candidate-by (Some y) e m p c w l known = known y e ((((k.managed.managed.dead y e).candidates m).0 c).0) m p c (Reaches-self (ManagedEdge r.managed) m) w l

    next_known : (x y : Row) → JointEdge graph x y → Known x → Known y
    next_known (object m) (object n) e known = λ c o dn b q cb walk w l. elim (Contains-decided c.dead m) [
      | inr out ↦ absurd ((k.managed.managed.dead c o).unheld m n e.live out e.field dn)
      | inl dm ↦ known c o dm b q cb (Reaches-trans (ManagedEdge r.managed) m n b (Reaches-edge (ManagedEdge r.managed) m n e) walk) w l
    ]
    next_known (peer p) (peer q) e known = spared-next mk p q (mark.fields p q e.live e.field) known
    next_known (object m) (peer p) e known =
        let w = joined-row r.managed s flags jm m p e in
        elim (Contains-decided (candidates_of r.managed) m) [
          | inr out ↦ row-spared m p w (k.owners.strong_ones m w.handle w.holds out)
          | inl c ↦ candidate-by r.managed.cycle refl m p c w e.live known
        ]
    next_known (peer p) (object m) e known = λ c o dm b q cb walk w l. (
        let v = joined-row r.managed s flags jm m p e in
        candidate-spared c o d k.driver m b p q (((k.managed.managed.dead c o).candidates m).1 (dm, (v.handle, v.holds))) cb walk v w e.live l known)

    pub reached-spared : (p : ℕ) → IsReached (joint_as r.managed s flags jm) (peer p) → IsSpared mk p
    reached-spared p w = Reached-keeps (IsJointRoot graph) (JointEdge graph) Known first_known next_known (peer p) w
