-- What every state of a linked history keeps of both sides together: who holds which handle, how strong it is, what
-- each managed thread is in the midst of, and how far the driver has come.
use Rattle.std.specs.Prelude.{◌≡◌, ℕ, ◌<◌, ◌≤◌, ◌↔◌, ◌⊎◌, List, [], ◌∷◌, length, Contains, Some, None, slice_get}
use Rattle.joint_machine.specs.declared.names.Thread.TheVariants.{C}
use Rattle.joint_machine.specs.Control.{Doing, free, made, lent, gripped, given, met, OpenSnap, Stand, idle, snapped}
use Rattle.joint_machine.specs.Control.{contracted, weakening, marked, restoring, restored}
use Rattle.joint_machine.specs.Cycles.{IsDeadContraction}
use Rattle.joint_machine.specs.Heaps.{InSlot, IsLive, fields_of}
use Rattle.joint_machine.specs.Linked.{Linkage}
use Rattle.joint_machine.specs.ManagedReplay.{ManagedReplay}
use Rattle.joint_machine.specs.Managed.{Managed, OpenCycle, Holds, ManagedEdge, candidates_of}
use Rattle.joint_machine.specs.Peers.{Issued, held, Strength, strong, weak}
use Rattle.joint_machine.specs.PeerReplay.{PeerReplay, TableRow, Marking, Refers}
use Rattle.joint_machine.specs.Walks.{Reaches}
use Rattle.joint_laws.specs.ManagedInvariants.{ReplayInvariant}
use Rattle.joint_laws.specs.Mirrors.{MirrorEdge}
use Rattle.joint_laws.specs.PeerInvariants.{IsTabled, IsIssued, PeerInvariant}
use Rattle.joint_machine.specs.Told.{said_alive, said_cleared, Answer}

-- the handle is in the table with that strength
abbrev pub HasStrength : PeerReplay → ℕ → Strength → Type 0
HasStrength s h x = (row : TableRow) × IsTabled s.table h row × (row.strength ≡ x)

-- the handle was issued for a managed object
abbrev pub IsHeldOne : PeerReplay → ℕ → Type 0
IsHeldOne s h = (i : Issued) × IsIssued s.peers.issued h i × (i.hold ≡ held)

-- the row holds a handle on the peer
pub record IsRowOf (m : Managed) (issued : List Issued) (x p : ℕ) : Type 0 where
  pub handle : ℕ
  pub holds : Holds m x handle
  pub row : Issued
  pub is_issued : IsIssued issued handle row
  pub leads : row.peer ≡ p

-- a held handle that a row holds was issued as held, and is strong unless its row is a candidate; one that is weak is
-- a candidate's; and the registry has exactly the rows that hold a handle, with their peers
pub record OwnersInvariant (r : ManagedReplay) (s : PeerReplay) : Type 0 where
  pub held_ones : (m h : ℕ) → Holds r.managed m h → IsHeldOne s h
  pub strong_ones : (m h : ℕ) → Holds r.managed m h
      → (Contains (candidates_of r.managed) m → ⊥) → HasStrength s h strong
  pub weak_ones : (h : ℕ) → HasStrength s h weak → IsHeldOne s h
      → (m : ℕ) × Holds r.managed m h × Contains (candidates_of r.managed) m
  pub registered : (m p : ℕ) → IsRowOf r.managed s.peers.issued m p → Contains r.registry (p, m)
  pub pairs : (p m : ℕ) → Contains r.registry (p, m) → IsRowOf r.managed s.peers.issued m p
  pub adopted : (h : ℕ) → Contains r.adopted h → h ≤ length s.peers.issued

-- what a managed thread is in the midst of, in a list of all
abbrev pub doing_in : List Doing → ℕ → Doing
doing_in ds t = elim (slice_get ds t) [ None ↦ free | Some d ↦ d ]

-- the handle that a thread has in hand, and no row holds
abbrev pub HasInHand : Doing → ℕ → Type 0
HasInHand (made n line p h sort f) g = h ≡ g
HasInHand (gripped n line p h sort f) g = h ≡ g
HasInHand (given n line h) g = h ≡ g
HasInHand (met n line h) g = h ≡ g
HasInHand _ g = ⊥

-- the peer whose handle a thread has made or gripped
abbrev pub HasPeer : Doing → ℕ → ℕ → Type 0
HasPeer (made n line p h sort f) g q = (h ≡ g) × (p ≡ q)
HasPeer (gripped n line p h sort f) g q = (h ≡ g) × (p ≡ q)
HasPeer _ g q = ⊥

-- the pair of a peer and a handle that a thread has made and no row has adopted
abbrev pub HasMadePair : Doing → ℕ → ℕ → Type 0
HasMadePair (made n line p h sort f) g q = (h ≡ g) × (p ≡ q)
HasMadePair _ g q = ⊥

-- the handle that a thread has lent
abbrev pub HasLent : Doing → ℕ → Type 0
HasLent (lent n line h x) g = h ≡ g
HasLent _ g = ⊥

-- a handle that nobody holds: it is in the table, strong
pub record IsLoose (r : ManagedReplay) (s : PeerReplay) (h : ℕ) : Type 0 where
  pub strong_one : HasStrength s h strong
  pub held_one : IsHeldOne s h
  pub unowned : (m : ℕ) → Holds r.managed m h → ⊥

-- a peer that was just made: no slot, no field and no pair names it, and it has the one handle, which was never adopted
pub record IsVirgin (r : ManagedReplay) (s : PeerReplay) (p h : ℕ) : Type 0 where
  pub slots : InSlot s.peers.heap p → ⊥
  pub fields : (x : ℕ) → IsLive s.peers.heap x → Contains (fields_of s.peers.heap x) (Some p) → ⊥
  pub handles : (g : ℕ) (i : Issued) → IsIssued s.peers.issued g i → i.peer ≡ p → g ≡ h
  pub pairs : (m : ℕ) → Contains r.registry (p, m) → ⊥
  pub unadopted : Contains r.adopted h → ⊥

-- what threads have in hand is loose, and no two have the same; a handle made or gripped is on the peer told; a peer
-- just made is named nowhere; and a handle that was lent was adopted
pub record CallersInvariant (r : ManagedReplay) (s : PeerReplay) (ds : List Doing) : Type 0 where
  pub loose : (t h : ℕ) → HasInHand (doing_in ds t) h → IsLoose r s h
  pub apart : (t u h : ℕ) → HasInHand (doing_in ds t) h → HasInHand (doing_in ds u) h → t ≡ u
  pub peers : (t h p : ℕ) → HasPeer (doing_in ds t) h p → (i : Issued) × IsIssued s.peers.issued h i × (i.peer ≡ p)
  pub virgins : (t h p : ℕ) → HasMadePair (doing_in ds t) h p → IsVirgin r s p h
  pub lent_ones : (t h : ℕ) → HasLent (doing_in ds t) h → Contains r.adopted h

-- the cycle is the one that the driver opened
pub record IsOpenedAs (r : ManagedReplay) (o : OpenSnap) (c : OpenCycle) : Type 0 where
  pub cycle : r.managed.cycle ≡ Some c
  pub number : c.number ≡ o.cycle

-- what holds of each candidate's handle, by its place
abbrev pub ForCandidates : Managed → OpenCycle → (ℕ → ℕ → Type 0) → Type 0
ForCandidates s c Q = (l m h : ℕ) → slice_get c.candidates l ≡ Some m → Holds s m h → Q l h

-- the handle left the table, and its peer is freed
pub record IsGone (s : PeerReplay) (h : ℕ) : Type 0 where
  pub untabled : (row : TableRow) → IsTabled s.table h row → ⊥
  pub freed : (i : Issued) → IsIssued s.peers.issued h i → Contains s.peers.heap.freed i.peer

-- the handle left the table for another one, which is in the table, strong, and on its peer
pub record IsReplaced (s : PeerReplay) (h g : ℕ) : Type 0 where
  pub untabled : (row : TableRow) → IsTabled s.table h row → ⊥
  pub strong_one : HasStrength s g strong
  pub held_one : IsHeldOne s g
  pub old : Issued
  pub was : IsIssued s.peers.issued h old
  pub new : Issued
  pub is : IsIssued s.peers.issued g new
  pub same : new.peer ≡ old.peer

-- the mirrored references are exactly the mirror edges of the dead part, carried to the peers
pub record IsMirrored (r : ManagedReplay) (s : PeerReplay) (c : OpenCycle) : Type 0 where
  pub comps : List (List ℕ)
  pub heavy : List ℕ
  pub xrefs : List (ℕ × ℕ)
  pub contraction : IsDeadContraction r.managed c.dead comps heavy xrefs
  pub stands : s.mirror ≡ None → ⊥
  pub exact : (p q : ℕ) → Refers s.refs p q
      ↔ ((a : ℕ) × (b : ℕ) × MirrorEdge comps xrefs a b
      × IsRowOf r.managed s.peers.issued a p × IsRowOf r.managed s.peers.issued b q)

-- a candidate's handle while handles are weakened, and while they are restored
abbrev pub IsWeakenedBy : PeerReplay → ℕ → ℕ → ℕ → Type 0
IsWeakenedBy s count l h = ((l < count) × HasStrength s h weak) ⊎ ((count ≤ l) × HasStrength s h strong)

abbrev pub IsRestoredBy : PeerReplay → List Answer → ℕ → ℕ → Type 0
IsRestoredBy s answers l h = ((g : ℕ) × (slice_get answers l ≡ Some (said_alive g)) × IsReplaced s h g)
    ⊎ ((slice_get answers l ≡ Some said_cleared) × IsGone s h) ⊎ ((length answers ≤ l) × HasStrength s h weak)

-- a candidate whose peer is unfreed leads only to candidates whose peers are unfreed
abbrev pub LeadsToUnfreed : ManagedReplay → PeerReplay → OpenCycle → Type 0
LeadsToUnfreed r s c = (a b p q : ℕ) → Contains c.candidates a
    → Contains c.candidates b → Reaches (ManagedEdge r.managed) a b
    → IsRowOf r.managed s.peers.issued a p → IsRowOf r.managed s.peers.issued b q
    → IsLive s.peers.heap p → IsLive s.peers.heap q

-- how far the driver has come, and what is so then
pub record IsIdle (r : ManagedReplay) (s : PeerReplay) : Type 0 where
  pub closed : r.managed.cycle ≡ None
  pub none : s.mirror ≡ None

pub record IsBeforeMirror (r : ManagedReplay) (s : PeerReplay) (o : OpenSnap) : Type 0 where
  pub cycle : OpenCycle
  pub opened : IsOpenedAs r o cycle
  pub none : s.mirror ≡ None
  pub handles : ForCandidates r.managed cycle (λ l h. HasStrength s h strong)

pub record IsContracted (r : ManagedReplay) (s : PeerReplay) (o : OpenSnap)
    (comps : List (List ℕ)) (heavy : List ℕ) (xrefs : List (ℕ × ℕ)) : Type 0 where
  pub before : IsBeforeMirror r s o
  pub contraction : IsDeadContraction r.managed before.cycle.dead comps heavy xrefs

pub record IsWeakening (r : ManagedReplay) (s : PeerReplay) (o : OpenSnap) (count : ℕ) : Type 0 where
  pub cycle : OpenCycle
  pub opened : IsOpenedAs r o cycle
  pub mirror : IsMirrored r s cycle
  pub handles : ForCandidates r.managed cycle (IsWeakenedBy s count)

pub record IsInMarking (r : ManagedReplay) (s : PeerReplay) (o : OpenSnap) : Type 0 where
  pub cycle : OpenCycle
  pub opened : IsOpenedAs r o cycle
  pub mirror : IsMirrored r s cycle
  pub handles : ForCandidates r.managed cycle (λ l h. HasStrength s h weak)
  pub marking : Marking
  pub own : s.marking ≡ Some marking
  pub by_driver : marking.by ≡ C

pub record IsRestoring (r : ManagedReplay) (s : PeerReplay) (o : OpenSnap) (answers : List Answer) : Type 0 where
  pub cycle : OpenCycle
  pub opened : IsOpenedAs r o cycle
  pub mirror : IsMirrored r s cycle
  pub handles : ForCandidates r.managed cycle (IsRestoredBy s answers)

pub record IsRestored (r : ManagedReplay) (s : PeerReplay) (o : OpenSnap) (answers : List Answer) : Type 0 where
  pub cycle : OpenCycle
  pub opened : IsOpenedAs r o cycle
  pub none : s.mirror ≡ None
  pub all : length answers ≡ length cycle.candidates
  pub handles : ForCandidates r.managed cycle (IsRestoredBy s answers)
  pub closed : LeadsToUnfreed r s cycle

abbrev pub DriverInvariant : ManagedReplay → PeerReplay → Stand → Type 0
DriverInvariant r s idle = IsIdle r s
DriverInvariant r s (snapped o) = IsBeforeMirror r s o
DriverInvariant r s (contracted o comps heavy xrefs) = IsContracted r s o comps heavy xrefs
DriverInvariant r s (weakening o count weakened swept) = IsWeakening r s o count
DriverInvariant r s (marked o) = IsInMarking r s o
DriverInvariant r s (restoring o answers) = IsRestoring r s o answers
DriverInvariant r s (restored o answers clear) = IsRestored r s o answers

-- what the driver's restores have answered
abbrev pub given_at : Stand → List Answer
given_at (restoring o answers) = answers
given_at (restored o answers clear) = answers
given_at _ = []

-- the handles that restores gave and no row took yet are in the driver's hand, the last first, before what threads have
abbrev pub put_hands : List Answer → List Doing → List Doing
put_hands [] ds = ds
put_hands (said_alive h ∷ answers) ds = put_hands answers (given 0 0 h ∷ ds)
put_hands (said_cleared ∷ answers) ds = put_hands answers ds

abbrev pub hands : Stand → List Doing → List Doing
hands d ds = put_hands (given_at d) ds

-- all of it
pub record LinkageInvariant (s : Linkage) : Type 0 where
  pub managed : ReplayInvariant s.managed
  pub peer : PeerInvariant s.peer
  pub owners : OwnersInvariant s.managed s.peer
  pub callers : CallersInvariant s.managed s.peer (hands s.control.stand s.control.doing)
  pub driver : DriverInvariant s.managed s.peer s.control.stand
