-- All stays kept at a sweep, by whichever thread: the handles keep their strength, and no candidate that leads to
-- others with unfreed peers loses its own alone.
use Rattle.std.proofs.Common.{◌≡◌, ℕ, ◌⊎◌, inl, inr, Bool, true, false, ◌||◌, List, [], Option, Some, None, refl, sym, ap, subst, ◌∙◌, arith}
use Rattle.std.specs.Prelude.{Contains, if◌then◌else◌}
use Rattle.std.proofs.lemmas.Option.{same_Some, slice_get_within}
use Rattle.std.proofs.lemmas.List.Elements.{Contains-append_left, Contains-append_cases}
use Rattle.joint_machine.specs.declared.names.Thread.{Thread}
use Rattle.joint_machine.specs.declared.names.Thread.TheVariants.{P, C}
use Rattle.joint_machine.specs.declared.events.Reply.TheVariants as says
use Rattle.joint_machine.specs.Control.{Doing, OpenSnap, Stand, marked, restoring}
use Rattle.joint_machine.specs.Heaps.{IsLive, answer}
use Rattle.joint_machine.specs.ManagedReplay.{ManagedReplay}
use Rattle.joint_machine.specs.Peers.{weak}
use Rattle.joint_machine.specs.PeerReplay.{PeerReplay, Marking, is_thread, swept_of, swept, IsSweep, SweepAllows}
use Rattle.joint_machine.specs.Told.{Told, nothing, sweep_of}
use Rattle.joint_laws.specs.PeerInvariants.{IsSpared}
use Rattle.joint_laws.specs.LinkedInvariants.{DriverInvariant, IsInMarking, IsRestoring, CallersInvariant, hands}
use Rattle.joint_machine.proofs.Members.{at-Contains}
use Rattle.joint_laws.proofs.HandlesAlike.{HandlesAlike, nothing_touched, OwnersInvariant-peer, replaced-peer}
use Rattle.joint_laws.proofs.DriverPeers.{driver_on, StaysClosed}
use Rattle.joint_laws.proofs.DriverPeerSteps.{HandlesAlike-swept}
use Rattle.joint_laws.proofs.DriverHandles.{callers_same, mirrored_changed}
use Rattle.joint_laws.proofs.PeerEntries.{swept_told, swept_of-kept, refused-by}
use Rattle.joint_laws.proofs.Sparing.{spared-stays}
use Rattle.joint_laws.proofs.LinkedQuiet.{BothInvariants}

module _ (r : ManagedReplay) (s : PeerReplay) (ds : List Doing) (d : Stand) (k : BothInvariants r s ds d) (mk : Marking) (freed : List ℕ) (e : s.marking ≡ Some mk) (w : IsSweep s mk freed) where
  abbrev after : PeerReplay
  after = (swept_of s mk freed).state

  pub swept-alike : HandlesAlike nothing_touched s after
  swept-alike = HandlesAlike-swept s after freed k.peer.handles.places refl refl refl

  was : (p : ℕ) → IsLive after.peers.heap p → IsLive s.peers.heap p
  was p l = record { made = l.made; kept = λ c. l.kept (Contains-append_left s.peers.heap.freed freed p c) }

  still : (p : ℕ) → IsLive s.peers.heap p → (Contains freed p → ⊥) → IsLive after.peers.heap p
  still p l n = record { made = l.made; kept = λ c. elim (Contains-append_cases s.peers.heap.freed freed p c) [ inl a ↦ l.kept a | inr a ↦ n a ] }

  -- a candidate's peer that was unfreed is under a strong handle, so it stays
  closed_swept : StaysClosed r s after
  closed_swept c answers all handles closed a b p q ca cb walk ra rb l =
      let lq = closed a b p q ca cb walk ra rb (was p l) in
      let at = at-Contains c.candidates b cb in
      elim (handles at.0 b rb.handle at.1 rb.holds) [
        | inl t ↦ still q lq (λ f. spared-stays s mk freed q w (subst (IsSpared mk) (replaced-peer s rb.handle t.0 rb.row t.2 rb.is_issued ∙ rb.leads)
            ((k.peer.marking mk e).strong_ones t.0 t.2.strong_one.0 t.2.new t.2.strong_one.1 t.2.strong_one.2 t.2.is)) f)
        | inr t ↦ elim t [
          | inl g ↦ absurd (lq.kept (subst (λ z. Contains s.peers.heap.freed z) rb.leads (g.1.freed rb.row rb.is_issued)))
          | inr g ↦ absurd (omega (arith, g.0, slice_get_within c.candidates at.0 b at.1, all))
        ]
      ]

  driver_swept : (x : Stand) → ((o : OpenSnap) → x ≡ marked o → ⊥) → DriverInvariant r s x → DriverInvariant r after x
  driver_swept x n h = driver_on nothing_touched r s after swept-alike k.owners (λ m g t q. t) refl refl x (λ i g e t. t) (λ o q. absurd (n o q)) closed_swept h

  kept_swept : (x : Stand) → hands x ds ≡ hands d ds → DriverInvariant r after x → BothInvariants r after ds x
  kept_swept x same h = record {
    managed = k.managed;
    peer = swept_of-kept s mk freed k.peer e w;
    owners = OwnersInvariant-peer nothing_touched r s after swept-alike k.owners (λ m g t q. t) (λ g q t. t);
    callers = subst (CallersInvariant r after) (sym same) (callers_same nothing_touched r s after swept-alike refl (λ p i. i) was (λ x p c. c) (hands d ds) k.callers (λ u g x t. t));
    driver = h;
  }

  -- not in the driver's own marking
  pub kept-swept : ((o : OpenSnap) → d ≡ marked o → ⊥) → BothInvariants r after ds d
  kept-swept n = kept_swept d refl (driver_swept d n k.driver)

  -- the driver's own: all candidates' handles are weak, and none is restored
  pub restoring-swept : (o : OpenSnap) → IsInMarking r s o → IsRestoring r after o []
  restoring-swept o h = record {
    cycle = h.cycle;
    opened = h.opened;
    mirror = mirrored_changed nothing_touched r s after h.cycle swept-alike k.owners refl (λ q. q) h.mirror;
    handles = λ l m g f q. inr (inr (omega arith, swept-alike.on g weak (k.owners.held_ones m g q) (λ t. t) (h.handles l m g f q)));
  }

  pub kept-own_swept : (o : OpenSnap) → hands d ds ≡ ds → IsInMarking r s o → BothInvariants r after ds (restoring o [])
  kept-own_swept o none h = kept_swept (restoring o []) (sym none) (restoring-swept o h)

-- a sweep leaves all as it is, or frees what an open marking that the thread may end doesn't spare
pub data SweepCase (s : PeerReplay) (t : Thread) (after : PeerReplay) : Type 0 where
  same : after ≡ s → SweepCase s t after
  ends : (mk : Marking) (freed : List ℕ) → s.marking ≡ Some mk → (t ≡ C) ⊎ (t ≡ mk.by) → IsSweep s mk freed → after ≡ (swept_of s mk freed).state → SweepCase s t after

if-case : (s : PeerReplay) (t : Thread) (mk : Marking) (freed : List ℕ) (b : Bool) → s.marking ≡ Some mk → (b ≡ true → ((t ≡ C) ⊎ (t ≡ mk.by)) × IsSweep s mk freed)
    → SweepCase s t (if b then swept_of s mk freed else answer (says.MarkOpen record { 0 = mk.number }) s).state
if-case s t mk freed true e w = let q = w refl in ends mk freed e q.0 q.1 refl
if-case s t mk freed false e w = same refl

pub sweep-case : (s : PeerReplay) (o : Option Marking) (t : Thread) (told : Told) → s.marking ≡ o → SweepAllows s o t told → SweepCase s t (swept s o t (swept_told told)).state
sweep-case s None t told e w = same refl
sweep-case s (Some mk) t (sweep_of freed) e w = if-case s t mk freed (is_thread t C || is_thread t mk.by) e (λ q. (w.0, w.1))
sweep-case s (Some mk) (P n) nothing e w = if-case s (P n) mk [] (is_thread (P n) C || is_thread (P n) mk.by) e (λ q. absurd (refused-by n mk.by w q))
sweep-case s (Some mk) t told e w = absurd w

-- a peer thread's sweep never ends the driver's own marking
pub kept-peer_sweep : (r : ManagedReplay) (s t : PeerReplay) (ds : List Doing) (d : Stand) (n : ℕ) → BothInvariants r s ds d → SweepCase s (P n) t → BothInvariants r t ds d
kept-peer_sweep r s t ds d n k (same e) = subst (λ z. BothInvariants r z ds d) (sym e) k
kept-peer_sweep r s t ds d n k (ends mk freed e by w q) = subst (λ z. BothInvariants r z ds d) (sym q) (kept-swept r s ds d k mk freed e w not_own)
  where
    own-by : (x : Stand) (o : OpenSnap) → x ≡ marked o → DriverInvariant r s x → IsInMarking r s o
    own-by x o f h = subst (λ z. DriverInvariant r s z) f h

    not_own : (o : OpenSnap) → d ≡ marked o → ⊥
    not_own o f =
        let h = own-by d o f k.driver in
        let same_marking : h.marking ≡ mk = same_Some h.marking mk (sym h.own ∙ e) in
        let driver : mk.by ≡ C = ap (λ (z : Marking). z.by) (sym same_marking) ∙ h.by_driver in
        elim by [
          | inl g ↦ (let bad : P n ≡ C = g in cc)
          | inr g ↦ (let bad : P n ≡ C = g ∙ driver in cc)
        ]
