-- How far the driver has come stays so at an entry of the peer side that touches no handle of a row and leaves the
-- mirror alone. And what threads have in hand stays so at a quiet event: a peer just made is named by nothing that a
-- slot could come by.
use Rattle.std.proofs.Common.{◌≡◌, ℕ, ◌≤◌, inl, inr, Bool, true, false, List, length, Option, Some, None, refl, sym, subst, ◌∙◌}
use Rattle.std.specs.Prelude.{Contains, if◌then◌else◌, slice_get}
use Rattle.std.proofs.lemmas.Bool.{cases_lt}
use Rattle.std.proofs.lemmas.Option.{same_Some}
use Rattle.joint_machine.specs.declared.names.Thread.TheVariants.{C}
use Rattle.joint_machine.specs.Control.{Doing, free, made, lent, gripped, given, met, OpenSnap, Stand, idle, snapped, contracted, weakening, marked, restoring, restored}
use Rattle.joint_machine.specs.Heaps.{IsMade, IsLive, InSlot, numbered_at, fields_of}
use Rattle.joint_machine.specs.Managed.{OpenCycle, Holds}
use Rattle.joint_machine.specs.ManagedReplay.{ManagedReplay}
use Rattle.joint_machine.specs.Peers.{Issued, strong, weak, peer_of}
use Rattle.joint_machine.specs.PeerReplay.{PeerReplay, TableRow, Marking, row_of, table_target, Refers}
use Rattle.joint_machine.proofs.Deciding.{none_some}
use Rattle.joint_laws.specs.PeerInvariants.{IsIssued, PeerInvariant}
use Rattle.joint_laws.specs.LinkedInvariants.{HasStrength, IsHeldOne, IsRowOf, OwnersInvariant, doing_in, HasInHand, HasPeer, HasMadePair, IsVirgin, CallersInvariant, ForCandidates, IsMirrored}
use Rattle.joint_laws.specs.LinkedInvariants.{IsWeakenedBy, IsRestoredBy, LeadsToUnfreed, IsBeforeMirror, DriverInvariant, given_at}
use Rattle.joint_laws.proofs.Fields.{IsLive-more, fields-past}
use Rattle.joint_laws.proofs.HandlesAlike.{HandlesAlike, nothing_touched, row_of-on, row_of-back, OwnersInvariant-peer, IsLoose-peer, weakened-peer, restored-peer}
use Rattle.joint_laws.proofs.PeerQuiet.{IsQuiet}
use Rattle.joint_machine.specs.Told.{Answer, said_alive}

-- the driver's own marking stays open
abbrev pub StillOwn : PeerReplay → PeerReplay → Type 0
StillOwn s t = (mk : Marking) → s.marking ≡ Some mk → mk.by ≡ C → (now : Marking) × (t.marking ≡ Some now) × (now.by ≡ C)

-- no staying candidate comes to lead to one whose peer is freed
abbrev pub StaysClosed : ManagedReplay → PeerReplay → PeerReplay → Type 0
StaysClosed r s t = (c : OpenCycle) (answers : List Answer) → length answers ≡ length c.candidates → ForCandidates r.managed c (IsRestoredBy s answers) → LeadsToUnfreed r s c → LeadsToUnfreed r t c

module _ (touched : ℕ → Type 0) (r : ManagedReplay) (s t : PeerReplay) (a : HandlesAlike touched s t) (owners : OwnersInvariant r s) (unowned : (m h : ℕ) → touched h → Holds r.managed m h → ⊥) where
  candidates_on : (c : OpenCycle) (Q R : ℕ → ℕ → Type 0) → ((l h : ℕ) → (touched h → ⊥) → IsHeldOne s h → Q l h → R l h) → ForCandidates r.managed c Q → ForCandidates r.managed c R
  candidates_on c Q R step all l m h e q = step l h (λ w. unowned m h w q) (owners.held_ones m h q) (all l m h e q)

  module _ (refs : t.refs ≡ s.refs) (mirror : t.mirror ≡ s.mirror) where
    pub mirrored_on : (c : OpenCycle) → IsMirrored r s c → IsMirrored r t c
    mirrored_on c m = record {
      comps = m.comps;
      heavy = m.heavy;
      xrefs = m.xrefs;
      contraction = m.contraction;
      stands = λ e. m.stands (sym mirror ∙ e);
      exact = λ p q. (
        λ d. (let w = (m.exact p q).0 (subst (λ z. Refers z p q) refs d) in (w.0, w.1, w.2, row_of-on touched r s t a w.0 p w.3, row_of-on touched r s t a w.1 q w.4)),
        λ w. subst (λ z. Refers z p q) (sym refs) ((m.exact p q).1 (w.0, w.1, w.2, row_of-back touched r s t a owners w.0 p w.3, row_of-back touched r s t a owners w.1 q w.4)),
      );
    }

    abbrev before_on : (o : OpenSnap) → IsBeforeMirror r s o → IsBeforeMirror r t o
    before_on o b = record {
      cycle = b.cycle;
      opened = b.opened;
      none = mirror ∙ b.none;
      handles = candidates_on b.cycle (λ l h. HasStrength s h strong) (λ l h. HasStrength t h strong) (λ l h n w q. a.on h strong w n q) b.handles;
    }

    pub driver_on : (d : Stand) → ((i g : ℕ) → slice_get (given_at d) i ≡ Some (said_alive g) → touched g → ⊥)
        → ((o : OpenSnap) → d ≡ marked o → StillOwn s t) → StaysClosed r s t → DriverInvariant r s d → DriverInvariant r t d
    driver_on idle avoids own closed k = record { closed = k.closed; none = mirror ∙ k.none }
    driver_on (snapped o) avoids own closed k = before_on o k
    driver_on (contracted o comps heavy xrefs) avoids own closed k = record { before = before_on o k.before; contraction = k.contraction }
    driver_on (weakening o count w sw) avoids own closed k = record {
      cycle = k.cycle;
      opened = k.opened;
      mirror = mirrored_on k.cycle k.mirror;
      handles = candidates_on k.cycle (IsWeakenedBy s count) (IsWeakenedBy t count) (λ l h n w q. weakened-peer touched r s t a count l h n w q) k.handles;
    }
    driver_on (marked o) avoids own closed k =
        let now = own o refl k.marking k.own k.by_driver in
        record {
          cycle = k.cycle;
          opened = k.opened;
          mirror = mirrored_on k.cycle k.mirror;
          handles = candidates_on k.cycle (λ l h. HasStrength s h weak) (λ l h. HasStrength t h weak) (λ l h n w q. a.on h weak w n q) k.handles;
          marking = now.0;
          own = now.1;
          by_driver = now.2;
        }
    driver_on (restoring o answers) avoids own closed k = record {
      cycle = k.cycle;
      opened = k.opened;
      mirror = mirrored_on k.cycle k.mirror;
      handles = candidates_on k.cycle (IsRestoredBy s answers) (IsRestoredBy t answers) (λ l h n w q. restored-peer touched r s t a answers l h avoids n w q) k.handles;
    }
    driver_on (restored o answers clear) avoids own closed k = record {
      cycle = k.cycle;
      opened = k.opened;
      none = mirror ∙ k.none;
      all = k.all;
      handles = candidates_on k.cycle (IsRestoredBy s answers) (IsRestoredBy t answers) (λ l h n w q. restored-peer touched r s t a answers l h avoids n w q) k.handles;
      closed = closed k.cycle answers k.all k.handles k.closed;
    }

-- where a handle leads it was issued on
target-by : (s : PeerReplay) (h p : ℕ) (o : Option TableRow) → elim o [ None ↦ None | Some row ↦ if row.cleared then None else peer_of s.peers.issued h ] ≡ Some p
    → (i : Issued) × IsIssued s.peers.issued h i × (i.peer ≡ p)
target-by s h p None q = absurd (none_some p q)
target-by s h p (Some row) q = by row.cleared q
  where
    issued-by : (j : Option Issued) → numbered_at s.peers.issued h ≡ j → elim j [ None ↦ None | Some i ↦ Some i.peer ] ≡ Some p → (i : Issued) × IsIssued s.peers.issued h i × (i.peer ≡ p)
    issued-by None f w = absurd (none_some p w)
    issued-by (Some i) f w = (i, f, same_Some i.peer p w)

    by : (b : Bool) → (if b then None else peer_of s.peers.issued h) ≡ Some p → (i : Issued) × IsIssued s.peers.issued h i × (i.peer ≡ p)
    by true w = absurd (none_some p w)
    by false w = issued-by (numbered_at s.peers.issued h) refl w

pub target-issued : (s : PeerReplay) (h p : ℕ) → table_target s h ≡ Some p → (i : Issued) × IsIssued s.peers.issued h i × (i.peer ≡ p)
target-issued s h p e = target-by s h p (row_of s h) e

-- a pair just made is in hand
pub made-in_hand : (d : Doing) (h p : ℕ) → HasMadePair d h p → HasInHand d h
made-in_hand (made n line p' h' sort f) h p w = w.0
made-in_hand free h p w = absurd w
made-in_hand (lent n line h' x) h p w = absurd w
made-in_hand (gripped n line p' h' sort f) h p w = absurd w
made-in_hand (given n line h') h p w = absurd w
made-in_hand (met n line h') h p w = absurd w

pub made-has_peer : (d : Doing) (h p : ℕ) → HasMadePair d h p → HasPeer d h p
made-has_peer (made n line p' h' sort f) h p w = w
made-has_peer free h p w = absurd w
made-has_peer (lent n line h' x) h p w = absurd w
made-has_peer (gripped n line p' h' sort f) h p w = absurd w
made-has_peer (given n line h') h p w = absurd w
made-has_peer (met n line h') h p w = absurd w

module _ (via : ℕ → Type 0) (r : ManagedReplay) (s t : PeerReplay) (k : PeerInvariant s) (owners : OwnersInvariant r s) (q : IsQuiet via s t) where
  live_on : (p : ℕ) → IsLive s.peers.heap p → IsLive t.peers.heap p
  live_on p l = IsLive-more s.peers.heap t.peers.heap q.made q.freed p l

  live_back : (p : ℕ) → IsMade s.peers.heap p → IsLive t.peers.heap p → IsLive s.peers.heap p
  live_back p m l = record { made = m; kept = λ c. l.kept (subst (λ f. Contains f p) (sym q.freed) c) }

  pub owners_quiet : OwnersInvariant r t
  owners_quiet = OwnersInvariant-peer nothing_touched r s t q.handles owners (λ m h w c. w) (λ h c w. w)

  row_of-made : (m p : ℕ) → IsRowOf r.managed s.peers.issued m p → IsMade s.peers.heap p
  row_of-made m p w = subst (λ z. IsMade s.peers.heap z) w.leads (k.handles.peers w.handle w.row w.is_issued)

  closed_quiet : StaysClosed r s t
  closed_quiet c answers all handles closed a b p x ca cb w ra rb l =
      let ra' = row_of-back nothing_touched r s t q.handles owners a p ra in
      let rb' = row_of-back nothing_touched r s t q.handles owners b x rb in
      live_on x (closed a b p x ca cb w ra' rb' (live_back p (row_of-made a p ra') l))

  own_quiet : StillOwn s t
  own_quiet mk e f = let now = q.marking mk e in (now.0, now.1, now.2 ∙ f)

  pub driver_quiet : (d : Stand) → DriverInvariant r s d → DriverInvariant r t d
  driver_quiet d kept = driver_on nothing_touched r s t q.handles owners (λ m h w c. w) q.refs q.mirror d (λ i g e c. c) (λ o e. own_quiet) closed_quiet kept

  -- what has a field was made
  has_field-made : (x y : ℕ) → 1 ≤ x → Contains (fields_of s.peers.heap x) (Some y) → IsMade s.peers.heap x
  has_field-made x y l c = (l, elim (cases_lt (length s.peers.heap.fields) x) [ inl p ↦ absurd (fields-past s.peers.heap x (Some y) p c) | inr p ↦ p ])

  virgin_quiet : (p h : ℕ) → IsVirgin r s p h → IsMade s.peers.heap p → ((g : ℕ) → via g → g ≡ h → ⊥) → IsVirgin r t p h
  virgin_quiet p h v m other = record {
    slots = λ i. elim (q.slots p i) [
      | inl reach ↦ elim reach [ inl j ↦ v.slots j | inr z ↦ v.fields z.0 (k.heap.slots z.0 z.1) z.2 ]
      | inr w ↦ elim w [
        | inl n ↦ n m
        | inr g ↦ (let i = target-issued s g.0 p g.2 in other g.0 g.1 (v.handles g.0 i.0 i.1 i.2))
      ]
    ];
    fields = λ x l c. elim (q.fields x p c) [ inl d ↦ v.fields x (live_back x (has_field-made x p l.made.0 d) l) d | inr i ↦ v.slots i ];
    handles = λ g i e l. elim (q.issues g i e) [
      | inl old ↦ v.handles g i old l
      | inr w ↦ elim w [
        | inl j ↦ absurd (v.slots (subst (λ z. InSlot s.peers.heap z) l j))
        | inr n ↦ absurd (n (subst (λ z. IsMade s.peers.heap z) (sym l) m))
      ]
    ];
    pairs = v.pairs;
    unadopted = v.unadopted;
  }

  pub callers_quiet : (ds : List Doing) → CallersInvariant r s ds → ((u h p g : ℕ) → HasMadePair (doing_in ds u) h p → via g → g ≡ h → ⊥) → CallersInvariant r t ds
  callers_quiet ds c other = record {
    loose = λ u h w. IsLoose-peer nothing_touched r s t q.handles h (λ n. n) (c.loose u h w);
    apart = c.apart;
    peers = λ u h p w. (let i = c.peers u h p w in (i.0, q.handles.issued_on h i.0 i.1, i.2));
    virgins = λ u h p w. (
        let i = c.peers u h p (made-has_peer (doing_in ds u) h p w) in
        virgin_quiet p h (c.virgins u h p w) (subst (λ z. IsMade s.peers.heap z) i.2 (k.handles.peers h i.0 i.1)) (λ g v e. other u h p g w v e));
    lent_ones = c.lent_ones;
  }
