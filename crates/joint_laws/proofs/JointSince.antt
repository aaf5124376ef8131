-- While a marking is open, each row that holds a handle on a peer that isn't spared held it at the begin: a row that
-- took its handle since has a strong one, so its peer is spared.
use Rattle.std.proofs.Common.{◌≡◌, ℕ, ◌⊎◌, inl, inr, Bool, true, false, Option, Some, None, refl, sym, ap, subst, ◌∙◌}
use Rattle.std.specs.Prelude.{Contains}
use Rattle.std.proofs.lemmas.Option.{same_Some}
use Rattle.joint_machine.specs.declared.events.Op.{Op}
use Rattle.joint_machine.specs.declared.events.Reply.{Reply}
use Rattle.joint_machine.specs.declared.events.Made.{Made}
use Rattle.joint_machine.specs.Joint.{JointMarking, Graph}
use Rattle.joint_machine.specs.Lines.{is_peer_event}
use Rattle.joint_machine.specs.Linked.{Linkage, MayCome, linkage_after, peer_after}
use Rattle.joint_machine.specs.Managed.{Managed, OpenCycle, Holds, candidates_of}
use Rattle.joint_machine.specs.Peers.{Issued, strong}
use Rattle.joint_machine.specs.PeerReplay.{PeerReplay, Marking}
use Rattle.joint_machine.specs.Told.{Told, Noted}
use Rattle.joint_laws.specs.JointAgreement.{AreSameMarkings, Flags, joint_as}
use Rattle.joint_laws.specs.LinkedInvariants.{HasStrength}
use Rattle.joint_laws.specs.ManagedInvariants.{ManagedInvariant}
use Rattle.joint_laws.specs.PeerInvariants.{IsIssued, IsSpared}
use Rattle.joint_machine.proofs.Members.{Contains-decided}
use Rattle.joint_machine.proofs.Deciding.{none_some}
use Rattle.joint_machine.proofs.HeapLemmas.{IsLive-before, candidates_of-open}
use Rattle.joint_laws.proofs.DriverSteps.{no_candidates}
use Rattle.joint_laws.proofs.ManagedEntries.{ManagedStep-entry}
use Rattle.joint_laws.proofs.ManagedSteps.{ManagedStep, going_on, snapping, resolving, abandoning}
use Rattle.joint_laws.proofs.LinkedEntries.{Of}
use Rattle.joint_laws.proofs.PeerSince.{GoesOnSparing, stays-sparing, peer-goes_on}
use Rattle.joint_laws.proofs.RunsAreSound.{MarkingCase, stays, ends, opens}

abbrev pub IsSince : Managed → PeerReplay → Option JointMarking → Type 0
IsSince m s jm = (y : JointMarking) → jm ≡ Some y → (mk : Marking) → s.marking ≡ Some mk → (x h : ℕ) (i : Issued) → Holds m x h → IsIssued s.peers.issued h i
    → (Holds y.begun.managed x h × IsIssued y.begun.peers.issued h i) ⊎ IsSpared mk i.peer

-- a row that holds a handle held it before, or the handle is strong
candidate-before : (m n : Managed) (k : ManagedInvariant m) → ManagedStep m n → (x h : ℕ) → Contains (candidates_of n) x → Holds n x h → Holds m x h
candidate-before m n k (going_on g) x h c q = by m.cycle refl
  where
    by : (o : Option OpenCycle) → m.cycle ≡ o → Holds m x h
    by None e = absurd (no_candidates n x (g.cycle ∙ e) c)
    by (Some y) e =
        let cut = k.dead y e in
        let dead = ((cut.candidates x).0 (subst (λ z. Contains z x) (candidates_of-open n y (g.cycle ∙ e)) c)).0 in
        let live = cut.live x dead in
        record { live = live; held = g.gains x h live.made q.held }
candidate-before m n k (snapping p) x h c q =
    let after = subst (λ z. Holds z x h) p.is q in
    record { live = IsLive-before m.heap p.freed x after.live; held = after.held }
candidate-before m n k (resolving p) x h c q = absurd (no_candidates n x (ap (λ (z : Managed). z.cycle) p.is) c)
candidate-before m n k (abandoning p) x h c q = absurd (no_candidates n x (ap (λ (z : Managed). z.cycle) p.is) c)

pub held-before : (s : Linkage) (n : Noted) → MayCome s n → Of s → Of (linkage_after s n) → (x h : ℕ)
    → Holds (linkage_after s n).managed.managed x h → Holds s.managed.managed x h ⊎ HasStrength (linkage_after s n).peer h strong
held-before s n may k after x h q = elim (Contains-decided (candidates_of (linkage_after s n).managed.managed) x) [
  | inr out ↦ inr (after.owners.strong_ones x h q out)
  | inl c ↦ inl (candidate-before s.managed.managed (linkage_after s n).managed.managed k.managed.managed (ManagedStep-entry s n may k.managed) x h c q)
]

peer-by : (s : Linkage) (m : Made) (told : Told) (b : Bool) → Of s → GoesOnSparing s.peer (peer_after s.peer m told b)
peer-by s m told true k = peer-goes_on s.peer k.peer m.caller m.op m.cites told
peer-by s m told false k = stays-sparing s.peer

pub peer-entry : (s : Linkage) (n : Noted) → Of s → GoesOnSparing s.peer (linkage_after s n).peer
peer-entry s n k = peer-by s n.entry.made n.told (is_peer_event n.entry.made.caller n.entry.made.op) k

-- where a joint marking is open, so is the peer side's
pub open-there : (x : Option Marking) (jm : Option JointMarking) (y : JointMarking) → AreSameMarkings x jm → jm ≡ Some y → (mk : Marking) × (x ≡ Some mk)
open-there None None y w e = absurd (none_some y e)
open-there None (Some j) y w e = absurd w
open-there (Some mk) jm y w e = (mk, refl)

pub since-opening : (m : Managed) (s : PeerReplay) → IsSince m s None
since-opening m s y e mk f x h i q p = absurd (none_some y e)

pub since-entry : (s : Linkage) (n : Noted) (flags flags' : Flags) (jm jm' : Option JointMarking) (o : Op) (reply : Reply)
    → MayCome s n → Of s → Of (linkage_after s n) → AreSameMarkings s.peer.marking jm → IsSince s.managed.managed s.peer jm
    → MarkingCase (joint_as s.managed.managed s.peer flags jm) o reply (joint_as (linkage_after s n).managed.managed (linkage_after s n).peer flags' jm')
    → IsSince (linkage_after s n).managed.managed (linkage_after s n).peer jm'
since-entry s n flags flags' jm jm' o reply may k after same since case y e mk f x h i q p = elim (held-before s n may k after x h q) [
  | inr t ↦ inr ((after.peer.marking mk f).strong_ones h t.0 i t.1 t.2 p)
  | inl old ↦ by case old
]
  where
    move : GoesOnSparing s.peer (linkage_after s n).peer
    move = peer-entry s n k

    by : MarkingCase (joint_as s.managed.managed s.peer flags jm) o reply (joint_as (linkage_after s n).managed.managed (linkage_after s n).peer flags' jm')
        → Holds s.managed.managed x h → (Holds y.begun.managed x h × IsIssued y.begun.peers.issued h i) ⊎ IsSpared mk i.peer
    by (stays a) old =
        let was : jm ≡ Some y = sym a ∙ e in
        let open_before = open-there s.peer.marking jm y same was in
        let j = k.owners.held_ones x h old in
        let rows : j.0 ≡ i = same_Some j.0 i (sym (move.issued_on h j.0 j.1) ∙ p) in
        elim (since y was open_before.0 open_before.1 x h j.0 old j.1) [
          | inl w ↦ inl (w.0, subst (λ z. IsIssued y.begun.peers.issued h z) rows w.1)
          | inr w ↦ inr (move.spares open_before.0 mk open_before.1 f i.peer (subst (λ (z : Issued). IsSpared open_before.0 z.peer) rows w))
        ]
    by (ends a) old = absurd (none_some y (sym a ∙ e))
    by (opens z b c a g) old =
        let marks : z ≡ y = same_Some z y (sym a ∙ e) in
        let graph : (joint_as (linkage_after s n).managed.managed (linkage_after s n).peer flags' jm').graph ≡ y.begun = g ∙ ap (λ (v : JointMarking). v.begun) marks in
        inl (subst (λ (v : Graph). Holds v.managed x h) graph q, subst (λ (v : Graph). IsIssued v.peers.issued h i) graph p)
