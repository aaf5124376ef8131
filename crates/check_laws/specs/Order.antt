-- Whether an entry is in order after those before it: three tests, made one after another. The first looks at the
-- event's name and line, the second at what is cited and what the cited entry gave, the third at the reply and at what
-- is told beside it.
-- Believed: the clauses of the program's top call rest on all that stands here.
use Rattle.std.specs.Prelude.{◌≡◌, ℕ, ◌≤◌, ◌<◌, ◌^◌, false, List, length, Option, Some, None}
use Rattle.joint_machine.specs.declared.names.Thread.{Thread}
use Rattle.joint_machine.specs.declared.names.Thread.TheVariants.{M, P, C}
use Rattle.joint_machine.specs.declared.lines.Act.TheVariants as act
use Rattle.joint_machine.specs.declared.events.Op.{Op}
use Rattle.joint_machine.specs.declared.events.Op.TheVariants as op
use Rattle.joint_machine.specs.declared.events.Made.{Made}
use Rattle.joint_machine.specs.declared.events.Reply.{Reply}
use Rattle.joint_machine.specs.declared.events.Reply.TheVariants as says
use Rattle.joint_machine.specs.Components.{mirror_edges}
use Rattle.joint_machine.specs.Control.{Doing, made, lent, gripped, given, met, Stand, idle, snapped, contracted}
use Rattle.joint_machine.specs.Control.{weakening, marked, restoring, restored, doing_at, last_line, carried_edges}
use Rattle.joint_machine.specs.Control.{IsCandidateHandle, IsAtRest, IsPhaseOf}
use Rattle.joint_machine.specs.Lines.{IsEvent, IsLine, is_peer_event}
use Rattle.joint_machine.specs.Linked.{Linkage, SideLawful}
use Rattle.joint_machine.specs.Managed.{Managed, candidates_of}
use Rattle.joint_machine.specs.PeerReplay.{Marking}
use Rattle.joint_machine.specs.Peers.{Issued}
use Rattle.joint_machine.specs.Told.{Told, references_of, resolution_of, phase_of, Noted}

-- an operation may begin: nothing has to follow (a pair, a lent handle or a gripped peer may have been left behind)
abbrev pub MayBegin : Doing → Type 0
MayBegin (given n line h) = ⊥
MayBegin (met n line h) = ⊥
MayBegin _ = Unit {0}

-- the later events of operations, on the line of the one before
abbrev pub AdoptTurn : Doing → Thread → ℕ → Op → Type 0
AdoptTurn (made n line p h sort f) t l (op.Adopt v kind k p' h') = (l ≡ line) × IsLine t (act.Bridge v kind k sort f)
AdoptTurn _ t l o = ⊥

abbrev pub LandTurn : Doing → ℕ → Type 0
LandTurn (lent n line h x) l = l ≡ line
LandTurn _ l = ⊥

abbrev pub MeetTurn : Doing → ℕ → Type 0
MeetTurn (gripped n line p h sort f) l = l ≡ line
MeetTurn _ l = ⊥

abbrev pub ReleaseTurn : Doing → ℕ → Type 0
ReleaseTurn (given n line h) l = l ≡ line
ReleaseTurn (met n line h) l = l ≡ line
ReleaseTurn _ l = ⊥

-- the event is the next one of the thread's open operation, or begins one
abbrev pub ThreadTurn : Doing → Thread → ℕ → Op → Type 0
ThreadTurn d t l (op.Adopt v kind k p h) = AdoptTurn d t l (op.Adopt v kind k p h)
ThreadTurn d t l (op.Land h x) = LandTurn d l
ThreadTurn d t l (op.Meet v sort f p h) = MeetTurn d l
ThreadTurn d t l (op.Release h) = ReleaseTurn d l
ThreadTurn d t l _ = MayBegin d

-- the event is the next one of the phase that is half done, or the first of the phase that comes next, or one that
-- stands between phases. `mark` first ends a peer thread's marking, if one is open, and begins its own where none is.
abbrev pub SnapTurn : Stand → Type 0
SnapTurn idle = Unit {0}
SnapTurn _ = ⊥

abbrev pub ContractTurn : Stand → Type 0
ContractTurn (snapped o) = Unit {0}
ContractTurn _ = ⊥

abbrev pub MirrorTurn : Stand → Type 0
MirrorTurn (contracted o comps heavy xrefs) = Unit {0}
MirrorTurn _ = ⊥

abbrev pub WeakenTurn : Stand → Managed → ℕ → Type 0
WeakenTurn (weakening o count weakened swept) s h = (swept ≡ false) × IsCandidateHandle s count h
WeakenTurn _ s h = ⊥

abbrev pub BeginTurn : Stand → ℕ → Option Marking → Type 0
BeginTurn (weakening o count weakened swept) c None = count ≡ c
BeginTurn _ c marking = ⊥

abbrev pub SweepTurn : Stand → ℕ → Option Marking → Type 0
SweepTurn (weakening o count weakened swept) c (Some mk) = (count ≡ c) × (swept ≡ false)
SweepTurn (marked o) c marking = Unit {0}
SweepTurn _ c marking = ⊥

abbrev pub RestoreTurn : Stand → Managed → ℕ → Type 0
RestoreTurn (restoring o answers) s h = IsCandidateHandle s (length answers) h
RestoreTurn _ s h = ⊥

abbrev pub ClearTurn : Stand → ℕ → Type 0
ClearTurn (restoring o answers) c = length answers ≡ c
ClearTurn _ c = ⊥

abbrev pub ResolveTurn : Stand → Type 0
ResolveTurn (restored o answers clear) = Unit {0}
ResolveTurn _ = ⊥

abbrev pub AbandonTurn : Stand → Type 0
AbandonTurn (snapped o) = Unit {0}
AbandonTurn (contracted o comps heavy xrefs) = Unit {0}
AbandonTurn _ = ⊥

abbrev pub DriverTurn : Stand → Managed → Option Marking → Op → Type 0
DriverTurn stand s marking (op.Line a) = IsAtRest stand (length (candidates_of s))
DriverTurn stand s marking (op.Snap k) = SnapTurn stand
DriverTurn stand s marking (op.Contract k) = ContractTurn stand
DriverTurn stand s marking (op.Mirror k) = MirrorTurn stand
DriverTurn stand s marking (op.Weaken h) = WeakenTurn stand s h.0
DriverTurn stand s marking op.Begin = BeginTurn stand (length (candidates_of s)) marking
DriverTurn stand s marking op.Sweep = SweepTurn stand (length (candidates_of s)) marking
DriverTurn stand s marking (op.Restore h) = RestoreTurn stand s h.0
DriverTurn stand s marking (op.Clear k) = ClearTurn stand (length (candidates_of s))
DriverTurn stand s marking (op.Resolve k) = ResolveTurn stand
DriverTurn stand s marking (op.Abandon k) = AbandonTurn stand
DriverTurn stand s marking (op.Refused w) = IsAtRest stand (length (candidates_of s))
DriverTurn stand s marking _ = ⊥

abbrev pub CallersTurn : Linkage → Thread → ℕ → Op → Type 0
CallersTurn s (M t) l o = ThreadTurn (doing_at s.control t) (M t) l o
CallersTurn s (P t) l o = Unit {0}
CallersTurn s C l o = DriverTurn s.control.stand s.managed.managed s.peer.marking o

-- the first test: it is the caller's turn. There is such an event, lines never fall, and the order of events allows its
-- name.
pub record IsTurn (s : Linkage) (m : Made) : Type 0 where
  pub event : IsEvent m.caller m.op
  pub line : last_line s.control m.caller ≤ m.index
  pub short : m.index < 2 ^ 32
  pub turn : CallersTurn s m.caller m.index m.op

-- what a later event of an operation cites, and what the cited entry gave
abbrev pub AdoptCites : Doing → ℕ → ℕ → Option ℕ → Type 0
AdoptCites (made n line p h sort f) p' h' cites = (cites ≡ Some n) × (p' ≡ p) × (h' ≡ h)
AdoptCites _ p' h' cites = ⊥

abbrev pub LandCites : Doing → ℕ → ℕ → Option ℕ → Type 0
LandCites (lent n line h x) h' x' cites = (cites ≡ Some n) × (h' ≡ h) × (x' ≡ x)
LandCites _ h' x' cites = ⊥

abbrev pub MeetCites : Doing → Op → Option ℕ → Type 0
MeetCites (gripped n line p h sort f) (op.Meet v sort' f' p' h') cites = (cites ≡ Some n)
    × (p'.0 ≡ p) × (h'.0 ≡ h) × (sort' ≡ sort) × (f' ≡ f)
MeetCites _ o cites = ⊥

abbrev pub ReleaseCites : Doing → ℕ → Option ℕ → Type 0
ReleaseCites (given n line h) h' cites = (cites ≡ Some n) × (h' ≡ h)
ReleaseCites (met n line h) h' cites = (cites ≡ Some n) × (h' ≡ h)
ReleaseCites _ h' cites = ⊥

abbrev pub ThreadCites : Doing → Op → Option ℕ → Type 0
ThreadCites d (op.Adopt v kind k p h) cites = AdoptCites d p.0 h.0 cites
ThreadCites d (op.Land h x) cites = LandCites d h.0 x.0 cites
ThreadCites d (op.Meet v sort f p h) cites = MeetCites d (op.Meet v sort f p h) cites
ThreadCites d (op.Release h) cites = ReleaseCites d h.0 cites
ThreadCites d _ cites = cites ≡ None

-- a mirror cites the snap of its cycle, which is the open one, a weaken the snap of the open cycle, a resolve the clear
-- of its cycle
abbrev pub MirrorCites : Stand → ℕ → Option ℕ → Type 0
MirrorCites (contracted o comps heavy xrefs) k cites = (o.cycle ≡ k) × (cites ≡ Some o.snap)
MirrorCites _ k cites = ⊥

abbrev pub WeakenCites : Stand → Option ℕ → Type 0
WeakenCites (weakening o count weakened swept) cites = cites ≡ Some o.snap
WeakenCites _ cites = ⊥

abbrev pub ResolveCites : Stand → ℕ → Option ℕ → Type 0
ResolveCites (restored o answers clear) k cites = (o.cycle ≡ k) × (cites ≡ Some clear)
ResolveCites _ k cites = ⊥

abbrev pub DriverCites : Stand → Op → Option ℕ → Type 0
DriverCites stand (op.Mirror k) cites = MirrorCites stand k.0 cites
DriverCites stand (op.Weaken h) cites = WeakenCites stand cites
DriverCites stand (op.Resolve k) cites = ResolveCites stand k.0 cites
DriverCites stand _ cites = cites ≡ None

-- the second test: it cites what it has to
abbrev pub CitesBy : Linkage → Thread → Op → Option ℕ → Type 0
CitesBy s (M t) o cites = ThreadCites (doing_at s.control t) o cites
CitesBy s (P t) o cites = cites ≡ None
CitesBy s C o cites = DriverCites s.control.stand o cites

abbrev pub CitesSo : Linkage → Made → Type 0
CitesSo s m = CitesBy s m.caller m.op m.cites

-- what the driver's stand says of the data of its events: the number of the open cycle, the references of its dead
-- part, the answers of the restores, and its phase
abbrev pub ContractData : Stand → ℕ → Type 0
ContractData (snapped o) k = o.cycle ≡ k
ContractData _ k = ⊥

abbrev pub MirrorData : Stand → Managed → List Issued → Told → Type 0
MirrorData (contracted o comps heavy xrefs) s issued
    (references_of refs) = refs ≡ carried_edges s issued (mirror_edges comps xrefs)
MirrorData _ s issued told = ⊥

abbrev pub BeginData : Reply → Type 0
BeginData (says.Mark j) = Unit {0}
BeginData _ = ⊥

abbrev pub ClearData : Stand → ℕ → Type 0
ClearData (restoring o answers) k = o.cycle ≡ k
ClearData _ k = ⊥

abbrev pub ResolveData : Stand → Told → Type 0
ResolveData (restored o answers clear) (resolution_of said freed) = said ≡ answers
ResolveData _ told = ⊥

abbrev pub AbandonData : Stand → ℕ → Type 0
AbandonData (snapped o) k = o.cycle ≡ k
AbandonData (contracted o comps heavy xrefs) k = o.cycle ≡ k
AbandonData _ k = ⊥

abbrev pub RefusalData : Stand → ℕ → Told → Type 0
RefusalData stand c (phase_of phase) = IsPhaseOf stand c phase
RefusalData stand c _ = ⊥

abbrev pub DriverData : Stand → Managed → List Issued → Op → Reply → Told → Type 0
DriverData stand s issued (op.Contract k) reply told = ContractData stand k.0
DriverData stand s issued (op.Mirror k) reply told = MirrorData stand s issued told
DriverData stand s issued op.Begin reply told = BeginData reply
DriverData stand s issued (op.Clear k) reply told = ClearData stand k.0
DriverData stand s issued (op.Resolve k) reply told = ResolveData stand told
DriverData stand s issued (op.Abandon k) reply told = AbandonData stand k.0
DriverData stand s issued (op.Refused w) reply told = RefusalData stand (length (candidates_of s)) told
DriverData stand s issued _ reply told = Unit {0}

abbrev pub CallersData : Linkage → Thread → Op → Reply → Told → Type 0
CallersData s (M t) o reply told = Unit {0}
CallersData s (P t) o reply told = Unit {0}
CallersData s C o reply told = DriverData s.control.stand s.managed.managed s.peer.peers.issued o reply told

-- the third test: its own side finds it lawful with this reply, given what is told beside it
pub record RepliesSo (s : Linkage) (n : Noted) : Type 0 where
  pub lawful : SideLawful (is_peer_event n.entry.made.caller n.entry.made.op) s n.entry.made n.told
  pub driven : CallersData s n.entry.made.caller n.entry.made.op n.entry.made.reply n.told
