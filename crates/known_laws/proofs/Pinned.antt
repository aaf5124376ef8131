-- What both sides keep holds with other pins too, if they stand: pins are roots of the managed objects and nothing else
-- of what is kept asks for them.
use Rattle.std.proofs.Common.{◌≡◌, ℕ, inl, inr, List, Option, Some}
use Rattle.std.specs.Prelude.{Contains}
use Rattle.joint_machine.specs.Control.{Doing, Stand, OpenSnap, idle, snapped, contracted, weakening, marked, restoring, restored}
use Rattle.joint_machine.specs.Cycles.{IsDeadContraction, DeadEdge}
use Rattle.joint_machine.specs.Linked.{Linkage}
use Rattle.joint_machine.specs.Managed.{Managed, OpenCycle, Holds, IsBridge}
use Rattle.joint_machine.specs.ManagedReplay.{ManagedReplay}
use Rattle.joint_machine.specs.PeerReplay.{PeerReplay}
use Rattle.joint_machine.specs.Peers.{Issued}
use Rattle.joint_machine.specs.PinsTold.{no_pins, with_pins}
use Rattle.joint_machine.proofs.Numbered.{replicate-none}
use Rattle.joint_laws.specs.LinkedInvariants.{hands, IsRowOf, OwnersInvariant, CallersInvariant, IsOpenedAs, ForCandidates, IsMirrored, IsBeforeMirror, DriverInvariant}
use Rattle.joint_laws.specs.ManagedInvariants.{IsCutOff, ManagedInvariant, ReplayInvariant}
use Rattle.joint_laws.proofs.LinkedEntries.{Of}
use Rattle.joint_laws.proofs.LinkedQuiet.{BothInvariants}
use Rattle.joint_laws.proofs.SameGraphs.{contraction-same}
use Rattle.known_laws.specs.Known.{PinsStand, pinned}

module _ (r : ManagedReplay) (pins : List (Option ℕ)) where
  abbrev q : ManagedReplay
  q = with_pins r pins

  pub holds_to : (m h : ℕ) → Holds r.managed m h → Holds q.managed m h
  holds_to m h w = record { live = w.live; held = w.held }

  pub holds_back : (m h : ℕ) → Holds q.managed m h → Holds r.managed m h
  holds_back m h w = record { live = w.live; held = w.held }

  pub bridge_to : (m : ℕ) → IsBridge r.managed m → IsBridge q.managed m
  bridge_to m w = (w.0, holds_to m w.0 w.1)

  pub bridge_back : (m : ℕ) → IsBridge q.managed m → IsBridge r.managed m
  bridge_back m w = (w.0, holds_back m w.0 w.1)

  row_to : (issued : List Issued) (m p : ℕ) → IsRowOf r.managed issued m p → IsRowOf q.managed issued m p
  row_to issued m p w = record { handle = w.handle; holds = holds_to m w.handle w.holds; row = w.row; is_issued = w.is_issued; leads = w.leads }

  row_back : (issued : List Issued) (m p : ℕ) → IsRowOf q.managed issued m p → IsRowOf r.managed issued m p
  row_back issued m p w = record { handle = w.handle; holds = holds_back m w.handle w.holds; row = w.row; is_issued = w.is_issued; leads = w.leads }

  pub contraction_to : (dead : List ℕ) (comps : List (List ℕ)) (heavy : List ℕ) (xrefs : List (ℕ × ℕ))
      → IsDeadContraction r.managed dead comps heavy xrefs → IsDeadContraction q.managed dead comps heavy xrefs
  contraction_to dead comps heavy xrefs w = contraction-same (λ m. Contains dead m × IsBridge r.managed m)
      (λ m. Contains dead m × IsBridge q.managed m) (DeadEdge r.managed dead) (DeadEdge q.managed dead) comps heavy xrefs
      (λ m. ((λ z. (z.0, bridge_to m z.1)), (λ z. (z.0, bridge_back m z.1)))) (λ x y. ((λ z. z), (λ z. z))) w

  module _ (st : PinsStand r.managed pins) where
    cut_to : (c : OpenCycle) → r.managed.cycle ≡ Some c → IsCutOff r.managed c → IsCutOff q.managed c
    cut_to c o k = record {
      live = k.live;
      unnamed = λ m w d. elim w [ inl i ↦ k.unnamed m (inl i) d | inr p ↦ st.outside c o m p d ];
      unheld = k.unheld;
      candidates = λ m. ((λ z. let y = (k.candidates m).0 z in (y.0, bridge_to m y.1)), (λ z. (k.candidates m).1 (z.0, bridge_back m z.1)));
      latest = k.latest;
      rise = k.rise;
    }

    pub managed_to : ManagedInvariant r.managed → ManagedInvariant q.managed
    managed_to k = record {
      places = k.places;
      vars = k.vars;
      freed = k.freed;
      roots = λ m w. elim w [ inl i ↦ k.roots m (inl i) | inr p ↦ st.live m p ];
      fields = k.fields;
      cells = k.cells;
      dead = λ c o. cut_to c o (k.dead c o);
    }

    replay_to : ReplayInvariant r → ReplayInvariant q
    replay_to k = record {
      managed = managed_to k.managed;
      adopted = λ m h w. k.adopted m h (holds_back m h w);
      alone = λ m n h v w. k.alone m n h (holds_back m h v) (holds_back n h w);
      pairs = λ p m c. bridge_to m (k.pairs p m c);
      one_row = k.one_row;
      one_peer = k.one_peer;
    }

  owners_to : (s : PeerReplay) → OwnersInvariant r s → OwnersInvariant q s
  owners_to s k = record {
    held_ones = λ m h w. k.held_ones m h (holds_back m h w);
    strong_ones = λ m h w n. k.strong_ones m h (holds_back m h w) n;
    weak_ones = λ h x y. let z = k.weak_ones h x y in (z.0, holds_to z.0 h z.1, z.2);
    registered = λ m p w. k.registered m p (row_back s.peers.issued m p w);
    pairs = λ p m c. row_to s.peers.issued m p (k.pairs p m c);
    adopted = k.adopted;
  }

  callers_to : (s : PeerReplay) (ds : List Doing) → CallersInvariant r s ds → CallersInvariant q s ds
  callers_to s ds k = record {
    loose = λ t h w. let z = k.loose t h w in record { strong_one = z.strong_one; held_one = z.held_one; unowned = λ m y. z.unowned m (holds_back m h y) };
    apart = k.apart;
    peers = k.peers;
    virgins = λ t h p w. let z = k.virgins t h p w in record { slots = z.slots; fields = z.fields; handles = z.handles; pairs = z.pairs; unadopted = z.unadopted };
    lent_ones = k.lent_ones;
  }

  opened_to : (o : OpenSnap) (c : OpenCycle) → IsOpenedAs r o c → IsOpenedAs q o c
  opened_to o c w = record { cycle = w.cycle; number = w.number }

  candidates_to : (c : OpenCycle) (Q : ℕ → ℕ → Type 0) → ForCandidates r.managed c Q → ForCandidates q.managed c Q
  candidates_to c Q f l m h e w = f l m h e (holds_back m h w)

  mirrored_to : (s : PeerReplay) (c : OpenCycle) → IsMirrored r s c → IsMirrored q s c
  mirrored_to s c w = record {
    comps = w.comps;
    heavy = w.heavy;
    xrefs = w.xrefs;
    contraction = contraction_to c.dead w.comps w.heavy w.xrefs w.contraction;
    stands = w.stands;
    exact = λ x y. (
      (λ z. let u = (w.exact x y).0 z in (u.0, u.1, u.2, row_to s.peers.issued u.0 x u.3, row_to s.peers.issued u.1 y u.4)),
      (λ u. (w.exact x y).1 (u.0, u.1, u.2, row_back s.peers.issued u.0 x u.3, row_back s.peers.issued u.1 y u.4)),
    );
  }

  abbrev before_to : (s : PeerReplay) (o : OpenSnap) → IsBeforeMirror r s o → IsBeforeMirror q s o
  before_to s o w = record { cycle = w.cycle; opened = opened_to o w.cycle w.opened; none = w.none; handles = candidates_to w.cycle _ w.handles }

  driver_to : (s : PeerReplay) (d : Stand) → DriverInvariant r s d → DriverInvariant q s d
  driver_to s idle w = record { closed = w.closed; none = w.none }
  driver_to s (snapped o) w = before_to s o w
  driver_to s (contracted o comps heavy xrefs) w = record { before = before_to s o w.before; contraction = contraction_to w.before.cycle.dead comps heavy xrefs w.contraction }
  driver_to s (weakening o count weakened swept) w = record {
    cycle = w.cycle;
    opened = opened_to o w.cycle w.opened;
    mirror = mirrored_to s w.cycle w.mirror;
    handles = candidates_to w.cycle _ w.handles;
  }
  driver_to s (marked o) w = record {
    cycle = w.cycle;
    opened = opened_to o w.cycle w.opened;
    mirror = mirrored_to s w.cycle w.mirror;
    handles = candidates_to w.cycle _ w.handles;
    marking = w.marking;
    own = w.own;
    by_driver = w.by_driver;
  }
  driver_to s (restoring o answers) w = record { cycle = w.cycle; opened = opened_to o w.cycle w.opened; mirror = mirrored_to s w.cycle w.mirror; handles = candidates_to w.cycle _ w.handles }
  driver_to s (restored o answers clear) w = record {
    cycle = w.cycle;
    opened = opened_to o w.cycle w.opened;
    none = w.none;
    all = w.all;
    handles = candidates_to w.cycle _ w.handles;
    closed = λ a b x y ca cb walk ra rb live. w.closed a b x y ca cb walk (row_back s.peers.issued a x ra) (row_back s.peers.issued b y rb) live;
  }

  pub kept_to : (s : PeerReplay) (ds : List Doing) (d : Stand) → PinsStand r.managed pins → BothInvariants r s ds d → BothInvariants q s ds d
  kept_to s ds d st k = record { managed = replay_to st k.managed; peer = k.peer; owners = owners_to s k.owners; callers = callers_to s (hands d ds) k.callers; driver = driver_to s d k.driver }

-- no pins stand, and so do those that a kept state has
pub none_stand : (s : Managed) → PinsStand s no_pins
none_stand s = record { live = λ m c. absurd (replicate-none 9 m c); outside = λ c o m p. absurd (replicate-none 9 m p) }

pub own_stand : (s : Managed) → ManagedInvariant s → PinsStand s s.pins
own_stand s k = record { live = λ m c. k.roots m (inr c); outside = λ c o m p d. (k.dead c o).unnamed m (inr p) d }

pub kept_pinned : (s : Linkage) (pins : List (Option ℕ)) → PinsStand s.managed.managed pins → Of s → Of (pinned s pins)
kept_pinned s pins st k = kept_to s.managed pins s.peer s.control.doing s.control.stand st k
