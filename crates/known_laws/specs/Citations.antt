-- Citations. The later event of an operation cites the earlier one, a mirror and a weaken cite the snap of their cycle,
-- a resolve its clear. What an entry cites agrees with its data, and no entry is cited twice, but a snap.
use Rattle.std.specs.Prelude.{◌≡◌, ℕ, ◌<◌, ◌↔◌, ◌⊎◌, List, [], ◌∷◌, ◌++◌, length, map, Contains, Option, Some, None}
use Rattle.std.specs.Prelude.{slice_get}
use Rattle.joint_machine.specs.declared.names.Sort.{Sort}
use Rattle.joint_machine.specs.declared.names.Var.{Var}
use Rattle.joint_machine.specs.declared.names.StaticNo.{StaticNo}
use Rattle.joint_machine.specs.declared.names.PNum.{PNum}
use Rattle.joint_machine.specs.declared.names.HNum.{HNum}
use Rattle.joint_machine.specs.declared.names.Cycle.{Cycle}
use Rattle.joint_machine.specs.declared.events.Op.{Op}
use Rattle.joint_machine.specs.declared.events.Op.TheVariants as op
use Rattle.joint_machine.specs.declared.events.Reply.{Reply}
use Rattle.joint_machine.specs.declared.events.Reply.TheVariants as says
use Rattle.joint_machine.specs.declared.events.Made.{Made}
use Rattle.joint_machine.specs.Components.{mirror_edges, End}
use Rattle.joint_machine.specs.Control.{carried_edges, answer_in, IsCandidateHandle}
use Rattle.joint_machine.specs.Cycles.{IsDeadContraction, IsOpen}
use Rattle.joint_machine.specs.Linked.{Linkage}
use Rattle.joint_machine.specs.Managed.{Holds, Managed, OpenCycle, ManagedEdge, handle_of, candidates_of}
use Rattle.joint_machine.specs.PeerReplay.{Mirror}
use Rattle.joint_machine.specs.Told.{Told, Noted, references_of, resolution_of, Answer, said_alive, said_cleared}
use Rattle.joint_machine.specs.Replaying.{SaysAlive}
use Rattle.joint_machine.specs.PinsTold.{bare_told}
use Rattle.joint_machine.specs.Walks.{Reaches}
use Rattle.known_laws.specs.Pasts.{Lawful, end_of}
use Rattle.known_laws.specs.PastEntries.{InPast}

-- an earlier entry of the past is cited, of the same caller, and it is as the citing entry's data say
pub record HasCited (h : List Noted) (x : Made) (number : ℕ) (IsAsSaid : Made → Type 0) : Type 0 where
  pub cited : Noted
  pub there : InPast h cited
  pub by_number : x.cites ≡ Some cited.entry.number
  pub earlier : cited.entry.number < number
  pub same : cited.entry.made.caller ≡ x.caller
  pub as_said : IsAsSaid cited.entry.made

-- the make of that pair, on that line
abbrev pub IsMakeOf : ℕ → PNum → HNum → Made → Type 0
IsMakeOf line p h m = (sort : Sort) × (f : ℕ) × (m.index ≡ line) × (m.op ≡ op.Make sort f) × (m.reply ≡ says.Made p h)

-- the lend of that handle to that static, on that line
abbrev pub IsLendOf : ℕ → HNum → StaticNo → Made → Type 0
IsLendOf line h x m = (v : Var) × (m.index ≡ line) × (m.op ≡ op.Lend v x) × (m.reply ≡ says.H h)

-- the grip that named that peer with its handle, sort and number of fields
abbrev pub IsGripOf : ℕ → PNum → HNum → Sort → ℕ → Made → Type 0
IsGripOf line p h sort f m = (x : StaticNo) × (m.index ≡ line)
    × (m.op ≡ op.Grip x) × (m.reply ≡ says.Gripped p h sort f)

-- a reply that isn't new
abbrev pub IsNotNew : Reply → Type 0
IsNotNew (says.New m) = ⊥
IsNotNew _ = Unit {0}

-- the give of that handle, on that line
abbrev pub IsGiveOf : ℕ → HNum → Made → Type 0
IsGiveOf line h m = (v : Var) × (m.index ≡ line) × (m.op ≡ op.Give v) × (m.reply ≡ says.H h)

-- a meet that didn't take that handle, on that line
abbrev pub IsMeetOf : ℕ → HNum → Made → Type 0
IsMeetOf line h m = (v : Var) × (p : PNum) × (sort : Sort) × (f : ℕ)
    × (m.index ≡ line) × (m.op ≡ op.Meet v sort f p h) × IsNotNew m.reply

-- the snap of that cycle
abbrev pub IsSnapOf : ℕ → Made → Type 0
IsSnapOf cycle m = m.op ≡ op.Snap record { 0 = cycle }

-- the clear of that cycle
abbrev pub IsClearOf : ℕ → Made → Type 0
IsClearOf cycle m = m.op ≡ op.Clear record { 0 = cycle }

-- what the entry has to cite; every other one cites nothing
abbrev pub Cites : List Noted → Made → ℕ → Op → Type 0
Cites h x n (op.Adopt v kind k p g) = HasCited h x n (IsMakeOf x.index p g)
Cites h x n (op.Land g y) = HasCited h x n (IsLendOf x.index g y)
Cites h x n (op.Meet v sort f p g) = HasCited h x n (IsGripOf x.index p g sort f)
Cites h x n (op.Release g) = HasCited h x n (λ m. IsGiveOf x.index g m ⊎ IsMeetOf x.index g m)
Cites h x n (op.Mirror k) = HasCited h x n (IsSnapOf k.0)
Cites h x n (op.Weaken g) = HasCited h x n (λ m. (k : ℕ) × IsSnapOf k m)
Cites h x n (op.Resolve k) = HasCited h x n (IsClearOf k.0)
Cites h x n _ = x.cites ≡ None

-- each entry of a known past cites what it has to
abbrev pub PastsCite : Type 0
PastsCite = (x : Noted) (h : List Noted) → Lawful (x ∷ h) → Cites h x.entry.made x.entry.number x.entry.made.op

-- the event is a snap
abbrev pub IsSnapping : Op → Type 0
IsSnapping (op.Snap k) = Unit {0}
IsSnapping o = ⊥

-- no entry of a past is cited by two, but a snap
abbrev pub NoneIsCitedTwice : Type 0
NoneIsCitedTwice = (h : List Noted) → Lawful h → (x y z : Noted) → InPast h x → InPast h y → InPast h z
    → x.entry.made.cites ≡ Some z.entry.number
    → y.entry.made.cites ≡ Some z.entry.number → (x ≡ y) ⊎ IsSnapping z.entry.made.op

-- a mirror adds exactly the mirror edges of its cycle's dead part, carried to the peers of the handles, and replies
-- their number
pub record AddsMirrorEdges (s : Linkage) (told : Told) (reply : Reply) (k : ℕ) : Type 0 where
  pub cycle : OpenCycle
  pub open_cycle : IsOpen s.managed.managed k cycle
  pub comps : List (List ℕ)
  pub heavy : List ℕ
  pub xrefs : List (ℕ × ℕ)
  pub contraction : IsDeadContraction s.managed.managed cycle.dead comps heavy xrefs
  pub refs : List (End × End)
  pub exact : refs ≡ carried_edges s.managed.managed s.peer.peers.issued (mirror_edges comps xrefs)
  pub tells : told ≡ references_of refs
  pub replies : reply ≡ says.Refs (length refs)

-- so does each mirror of a past
abbrev pub MirrorsAddMirrorEdges : Type 0
MirrorsAddMirrorEdges = (x : Noted) (h : List Noted) → Lawful (x ∷ h) → (k : Cycle)
    → x.entry.made.op ≡ op.Mirror k → AddsMirrorEdges (end_of h) (bare_told x.told) x.entry.made.reply k.0

-- a weaken takes the handle of the next candidate, by how many were weakened in the mirrored cycle, whose snap it cites
pub record TakesNext (s : Linkage) (cites : Option ℕ) (g : ℕ) : Type 0 where
  pub mirror : Mirror
  pub stands : s.peer.mirror ≡ Some mirror
  pub cited : cites ≡ Some mirror.snap
  pub candidate : IsCandidateHandle s.managed.managed (length mirror.weakened) g

-- so does each weaken of a past
abbrev pub WeakensTakeNext : Type 0
WeakensTakeNext = (x : Noted) (h : List Noted) → Lawful (x ∷ h) → (g : HNum)
    → x.entry.made.op ≡ op.Weaken g → TakesNext (end_of h) x.entry.made.cites g.0

-- the restores of a past since its latest snap, earliest first: the handle of each, and what it answered
abbrev pub restores_after : Op → Reply → List (ℕ × Answer) → List (ℕ × Answer)
restores_after (op.Snap k) reply before = []
restores_after (op.Restore h) reply before = before ++ (h.0, answer_in reply) ∷ []
restores_after o reply before = before

-- so far as a past has them
abbrev pub restores_in : List Noted → List (ℕ × Answer)
restores_in [] = []
restores_in (x ∷ h) = restores_after x.entry.made.op x.entry.made.reply (restores_in h)

-- the answers are those of these restores, each of the handle of the candidate in its place
pub record AreRestored (s : Managed) (restores : List (ℕ × Answer)) (answers : List Answer) : Type 0 where
  pub same : map (λ r. r.1) restores ≡ answers
  pub in_turn : (i g : ℕ) (a : Answer) → slice_get restores i ≡ Some (g, a) → IsCandidateHandle s i g

-- the restore of that candidate answered alive
pub record WasRestoredAlive (s : Managed) (restores : List (ℕ × Answer)) (m : ℕ) : Type 0 where
  pub place : ℕ
  pub handle : ℕ
  pub candidate : slice_get (candidates_of s) place ≡ Some m
  pub holds : handle_of s m ≡ Some handle
  pub answer : Answer
  pub answered : slice_get restores place ≡ Some (handle, answer)
  pub kept : SaysAlive answer

-- a resolve tells the answers of the restores, of which each candidate has one, and frees exactly the rows of the dead
-- part that no candidate whose restore answered alive leads to
pub record FreesByRestores (s : Managed) (restores : List (ℕ × Answer)) (told : Told) (k : ℕ) : Type 0 where
  pub cycle : OpenCycle
  pub open_cycle : IsOpen s k cycle
  pub answers : List Answer
  pub freed : List ℕ
  pub tells : told ≡ resolution_of answers freed
  pub restored : AreRestored s restores answers
  pub one_each : length restores ≡ length cycle.candidates
  pub frees : (m : ℕ) → Contains freed m
      ↔ (Contains cycle.dead m × (((c : ℕ) × WasRestoredAlive s restores c × Reaches (ManagedEdge s) c m) → ⊥))

-- so does each resolve of a past
abbrev pub ResolvesFreeByRestores : Type 0
ResolvesFreeByRestores = (x : Noted) (h : List Noted) → Lawful (x ∷ h) → (k : Cycle)
    → x.entry.made.op ≡ op.Resolve k → FreesByRestores (end_of h).managed.managed (restores_in h) (bare_told x.told) k.0

-- so a resolve frees, of its candidates, exactly those whose restore in the past answered cleared
abbrev pub ResolvesFreeCleared : Type 0
ResolvesFreeCleared = (x : Noted) (h : List Noted) → Lawful (x ∷ h) → (k : Cycle) → x.entry.made.op ≡ op.Resolve k
    → (answers : List Answer) (freed : List ℕ) → bare_told x.told ≡ resolution_of answers freed
    → (i g m : ℕ) (a : Answer) → slice_get (restores_in h) i ≡ Some (g, a)
    → slice_get (candidates_of (end_of h).managed.managed) i ≡ Some m → Contains freed m ↔ (a ≡ said_cleared)

-- a restore that answered alive ends in the new handle of its row: after the resolve the candidate holds the handle
-- that it gave
abbrev pub RestoredHoldTheNew : Type 0
RestoredHoldTheNew = (x : Noted) (h : List Noted) → Lawful (x ∷ h) → (k : Cycle) → x.entry.made.op ≡ op.Resolve k
    → (i g m n : ℕ) → slice_get (restores_in h) i ≡ Some (g, said_alive n)
    → slice_get (candidates_of (end_of h).managed.managed) i ≡ Some m → Holds (end_of (x ∷ h)).managed.managed m n

-- each entry of a past stands behind a past, so each of these laws is about every entry
pub record StandsBehind (h : List Noted) (x : Noted) : Type 0 where
  pub front : List Noted
  pub back : List Noted
  pub all : h ≡ front ++ x ∷ back
  pub lawful : Lawful (x ∷ back)

-- so does each entry
abbrev pub EachStandsBehind : Type 0
EachStandsBehind = (h : List Noted) → Lawful h → (x : Noted) → InPast h x → StandsBehind h x
