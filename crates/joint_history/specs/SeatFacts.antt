-- What holds under each side's lock and of each caller, fact by fact: what its seat knows, which entries of the other
-- side its list cites, and what that says of handles, references and resolutions. Each is kept with no lock on the
-- other side.
use Rattle.std.specs.Prelude.{◌≡◌, ◌⊎◌, ◌∷◌, ℕ, ◌↔◌, List, Contains, Some, slice_get}
use Rattle.joint_machine.specs.declared.names.Cycle.{Cycle}
use Rattle.joint_machine.specs.declared.events.Entry.{Entry}
use Rattle.joint_machine.specs.declared.events.Made.{Made}
use Rattle.joint_machine.specs.declared.events.Op.{Op}
use Rattle.joint_machine.specs.declared.events.Op.TheVariants as op
use Rattle.joint_machine.specs.Control.{OpenSnap, restoring}
use Rattle.joint_machine.specs.Managed.{Holds, candidates_of}
use Rattle.joint_machine.specs.Heaps.{IsLive, fields_of}
use Rattle.joint_machine.specs.Peers.{weak}
use Rattle.joint_machine.specs.PeerReplay.{Mirror, PeerReplay, Refers, TableRow}
use Rattle.joint_machine.specs.Sides.{Side}
use Rattle.joint_machine.specs.Told.{Answer, Noted, resolution_of, said_alive, said_cleared}
use Rattle.joint_machine.specs.Replaying.{SaysAlive}
use Rattle.joint_machine.specs.PinsTold.{bare_told}
use Rattle.joint_laws.specs.LinkedInvariants.{HasStrength, IsHeldOne}
use Rattle.joint_laws.specs.PeerInvariants.{IsTabled}
use Rattle.known_laws.specs.Citations.{IsClearOf, IsGiveOf, IsGripOf, IsLendOf, IsMakeOf, IsMeetOf, IsSnapOf}
use Rattle.known_laws.specs.Citations.{StandsBehind, restores_in}
use Rattle.known_laws.specs.Facts.{IsAnswered, TakesHandle}
use Rattle.known_laws.specs.Pasts.{end_of}
use Rattle.known_laws.specs.PastEntries.{InPast}
use Rattle.order_table.specs.declared.views.View.{View}
use Rattle.joint_history.specs.Knowing.{line_known}
use Rattle.view_laws.specs.Knowing.{IsDrawnView}

-- the entry cites one of that side's list which the seat knows, and which is as the citing entry's data say
pub record CitesKnown (v : View) (i : ℕ) (e : Entry) (IsAsSaid : Made → Type 0) : Type 0 where
  pub cited : Entry
  pub there : Contains (line_known v i) cited
  pub by_number : e.made.cites ≡ Some cited.number
  pub as_said : IsAsSaid cited.made

-- of the peer list's entries: a land cites its lend, a release its give or a meet that didn't take the handle, a mirror
-- the snap of its cycle and a weaken a snap, each of them an entry of the managed list
abbrev pub CitesManaged : View → Entry → Op → Type 0
CitesManaged v e (op.Land h x) = CitesKnown v 0 e (IsLendOf e.made.index h x)
CitesManaged v e (op.Release h) = CitesKnown v 0 e (λ m. IsGiveOf e.made.index h m ⊎ IsMeetOf e.made.index h m)
CitesManaged v e (op.Mirror k) = CitesKnown v 0 e (IsSnapOf k.0)
CitesManaged v e (op.Weaken h) = CitesKnown v 0 e (λ m. (k : ℕ) × IsSnapOf k m)
CitesManaged v e o = Unit {0}

-- of the managed list's entries: an adopt cites its make, a meet its grip and a resolve the clear of its cycle, each of
-- them an entry of the peer list
abbrev pub CitesPeers : View → Entry → Op → Type 0
CitesPeers v e (op.Adopt w kind k p h) = CitesKnown v 1 e (IsMakeOf e.made.index p h)
CitesPeers v e (op.Meet w sort f p h) = CitesKnown v 1 e (IsGripOf e.made.index p h sort f)
CitesPeers v e (op.Resolve k) = CitesKnown v 1 e (IsClearOf k.0)
CitesPeers v e o = Unit {0}

-- so does each entry of a list
abbrev pub PeerListCites : View → List Entry → Type 0
PeerListCites v es = (e : Entry) → Contains es e → CitesManaged v e e.made.op

abbrev pub ManagedListCites : View → List Entry → Type 0
ManagedListCites v es = (e : Entry) → Contains es e → CitesPeers v e e.made.op

-- a held handle left the table only by a release or by a restore
abbrev pub HandlesLeft : Side PeerReplay → Type 0
HandlesLeft s = (h : ℕ) → IsHeldOne s.state h → ((row : TableRow) → IsTabled s.state.table h row → ⊥)
    → (e : Entry) × Contains s.entries e × TakesHandle e.made h

-- a held handle is weak only where it was weakened in the mirrored cycle and isn't restored
abbrev pub WeakIsWaitingIn : PeerReplay → Type 0
WeakIsWaitingIn s = (h : ℕ) → HasStrength s h weak → IsHeldOne s h → (m : Mirror)
    × (s.mirror ≡ Some m) × Contains m.weakened h × (Contains m.restored h → ⊥)

-- no field and no mirrored reference leads from an unfreed peer to a freed one
abbrev pub NoneLeadsToFreedIn : PeerReplay → Type 0
NoneLeadsToFreedIn s = (p q : ℕ) → IsLive s.peers.heap p
    → Contains (fields_of s.peers.heap p) (Some q) ⊎ Refers s.refs p q → IsLive s.peers.heap q

-- no mirrored reference leads from a peer whose restore in the mirrored cycle answered alive to one whose restore
-- answered cleared
abbrev pub NoneLeadsToClearedIn : View → Type 0
NoneLeadsToClearedIn v = (a : IsDrawnView v) (o : OpenSnap) (answers : List Answer)
    → (end_of a.known.past).control.stand ≡ restoring o answers → (p q : ℕ) → Refers (end_of a.known.past).peer.refs p q
    → (alive : Answer) → SaysAlive alive → IsAnswered (end_of a.known.past) answers alive p
    → IsAnswered (end_of a.known.past) answers said_cleared q → ⊥

-- the latest entry of a past, where it is a resolve, freed of its candidates exactly those whose restore answered
-- cleared
abbrev pub ResolveFreed : Noted → List Noted → Type 0
ResolveFreed x h = (k : Cycle) → x.entry.made.op ≡ op.Resolve k
    → (answers : List Answer) (freed : List ℕ) → bare_told x.told ≡ resolution_of answers freed
    → (i g m : ℕ) (a : Answer) → slice_get (restores_in h) i ≡ Some (g, a)
    → slice_get (candidates_of (end_of h).managed.managed) i ≡ Some m → Contains freed m ↔ (a ≡ said_cleared)

-- so did each resolve that the seat knows
abbrev pub ResolvesFreed : View → Type 0
ResolvesFreed v = (a : IsDrawnView v) (x : Noted) → InPast a.known.past x
    → (b : StandsBehind a.known.past x) × ResolveFreed x b.back

-- the latest entry of a past, where it is a resolve, gave each of its candidates whose restore answered alive the
-- handle that this restore gave
abbrev pub ResolveRenewed : Noted → List Noted → Type 0
ResolveRenewed x h = (k : Cycle) → x.entry.made.op ≡ op.Resolve k → (i g m n : ℕ)
    → slice_get (restores_in h) i ≡ Some (g, said_alive n)
    → slice_get (candidates_of (end_of h).managed.managed) i ≡ Some m → Holds (end_of (x ∷ h)).managed.managed m n

-- so did each resolve that the seat knows
abbrev pub ResolvesRenewed : View → Type 0
ResolvesRenewed v = (a : IsDrawnView v) (x : Noted) → InPast a.known.past x
    → (b : StandsBehind a.known.past x) × ResolveRenewed x b.back
