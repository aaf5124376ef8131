-- Whose turn it is and what an entry cites, over what is kept of callers.
use Rattle.std.specs.Prelude.{◌≡◌, ℕ, ◌+◌, ◌<◌, ◌≤◌, ◌⊎◌, Bool, true, false, List, All, slice_set, slice_index}
use Rattle.std.specs.Prelude.{slice_get, Option, Some, None}
use Rattle.joint_machine.specs.declared.names.HNum.{HNum}
use Rattle.joint_machine.specs.declared.names.Kind.{Kind}
use Rattle.joint_machine.specs.declared.names.Phase.{Phase}
use Rattle.joint_machine.specs.declared.names.Phase.TheVariants as at
use Rattle.joint_machine.specs.declared.names.PNum.{PNum}
use Rattle.joint_machine.specs.declared.names.Thread.{Thread}
use Rattle.joint_machine.specs.declared.names.Thread.TheVariants.{M, P, C}
use Rattle.joint_machine.specs.declared.events.Op.{Op}
use Rattle.joint_machine.specs.declared.events.Op.TheVariants as op
use Rattle.joint_machine.specs.declared.events.Reply.{Reply}
use Rattle.joint_machine.specs.declared.events.Reply.TheVariants as says
use Rattle.joint_machine.specs.Control.{caller_place}
use Rattle.joint_machine.specs.Lines.{IsBridgeObject, IsEvent}
use Rattle.caller_turns.specs.declared.stands.Doing.{Doing}
use Rattle.caller_turns.specs.declared.stands.Doing.TheVariants as doing
use Rattle.caller_turns.specs.declared.stands.Part.{Part}
use Rattle.caller_turns.specs.declared.stands.Stand.{Stand}
use Rattle.caller_turns.specs.declared.stands.Stand.TheVariants as stand
use Rattle.joint_machine.specs.Numbers.{u32_max}

-- what is kept: of each managed thread the half of an operation, of each caller its last line, and where the driver
-- stands
pub record Callers : Type 0 where
  pub hands : List Doing
  pub lines : List ℕ
  pub stand : Stand

-- the half of an operation of a thread
abbrev pub hand_at : Callers → ℕ → Doing
hand_at c t = elim (slice_get c.hands t) [ None ↦ doing.Free | Some d ↦ d ]

-- an operation may begin
abbrev pub MayBegin : Doing → Type 0
MayBegin (doing.Given n line h) = ⊥
MayBegin (doing.Met n line h) = ⊥
MayBegin _ = Unit {0}

-- the later events of operations, on the line of the one before
abbrev pub AdoptTurn : Doing → ℕ → Kind → ℕ → Type 0
AdoptTurn (doing.Made n line p h sort f) l kind k = (l ≡ line) × IsBridgeObject kind k sort × (f ≤ 16)
AdoptTurn _ l kind k = ⊥

abbrev pub LandTurn : Doing → ℕ → Type 0
LandTurn (doing.Lent n line h x) l = l ≡ line
LandTurn _ l = ⊥

abbrev pub MeetTurn : Doing → ℕ → Type 0
MeetTurn (doing.Gripped n line p h sort f) l = l ≡ line
MeetTurn _ l = ⊥

abbrev pub ReleaseTurn : Doing → ℕ → Type 0
ReleaseTurn (doing.Given n line h) l = l ≡ line
ReleaseTurn (doing.Met n line h) l = l ≡ line
ReleaseTurn _ l = ⊥

abbrev pub HandTurn : Doing → ℕ → Op → Type 0
HandTurn d l (op.Adopt v kind k p h) = AdoptTurn d l kind k
HandTurn d l (op.Land h x) = LandTurn d l
HandTurn d l (op.Meet v sort f p h) = MeetTurn d l
HandTurn d l (op.Release h) = ReleaseTurn d l
HandTurn d l _ = MayBegin d

-- no phase is half done, with so many candidates
abbrev pub IsResting : Stand → ℕ → Type 0
IsResting (stand.Weakening o count weakened swept) c = ((count ≡ 0) ⊎ (count ≡ c)) × (swept ≡ false)
IsResting (stand.Restoring o count) c = count ≡ 0
IsResting _ c = Unit {0}

-- the driver's events by where it stands
abbrev pub IsIdle : Stand → Type 0
IsIdle stand.Idle = Unit {0}
IsIdle _ = ⊥

abbrev pub IsSnapped : Stand → Type 0
IsSnapped (stand.Snapped o) = Unit {0}
IsSnapped _ = ⊥

abbrev pub IsContracted : Stand → Type 0
IsContracted (stand.Contracted o) = Unit {0}
IsContracted _ = ⊥

abbrev pub IsRestored : Stand → Type 0
IsRestored (stand.Restored o clear) = Unit {0}
IsRestored _ = ⊥

abbrev pub MayAbandon : Stand → Type 0
MayAbandon (stand.Snapped o) = Unit {0}
MayAbandon (stand.Contracted o) = Unit {0}
MayAbandon _ = ⊥

abbrev pub WeakenTurn : Stand → Part → HNum → Type 0
WeakenTurn (stand.Weakening o count weakened swept) part h = (swept ≡ false) × (part.next ≡ Some h)
WeakenTurn _ part h = ⊥

abbrev pub BeginTurn : Stand → Part → Type 0
BeginTurn (stand.Weakening o count weakened swept) part = (count ≡ part.candidates) × (part.marking ≡ false)
BeginTurn _ part = ⊥

abbrev pub SweepTurn : Stand → Part → Type 0
SweepTurn (stand.Weakening o count weakened swept) part = (count ≡ part.candidates)
    × (swept ≡ false) × (part.marking ≡ true)
SweepTurn (stand.Marked o) part = Unit {0}
SweepTurn _ part = ⊥

abbrev pub RestoreTurn : Stand → Part → HNum → Type 0
RestoreTurn (stand.Restoring o count) part h = part.next ≡ Some h
RestoreTurn _ part h = ⊥

abbrev pub ClearTurn : Stand → Part → Type 0
ClearTurn (stand.Restoring o count) part = count ≡ part.candidates
ClearTurn _ part = ⊥

abbrev pub DriverTurn : Stand → Part → Op → Type 0
DriverTurn d part (op.Line a) = IsResting d part.candidates
DriverTurn d part (op.Snap k) = IsIdle d
DriverTurn d part (op.Contract k) = IsSnapped d
DriverTurn d part (op.Mirror k) = IsContracted d
DriverTurn d part (op.Weaken h) = WeakenTurn d part h
DriverTurn d part op.Begin = BeginTurn d part
DriverTurn d part op.Sweep = SweepTurn d part
DriverTurn d part (op.Restore h) = RestoreTurn d part h
DriverTurn d part (op.Clear k) = ClearTurn d part
DriverTurn d part (op.Resolve k) = IsRestored d
DriverTurn d part (op.Abandon k) = MayAbandon d
DriverTurn d part (op.Refused w) = IsResting d part.candidates
DriverTurn d part _ = ⊥

-- it is the caller's turn to make such an event
abbrev pub CallersTurn : Callers → Part → Thread → ℕ → Op → Type 0
CallersTurn c part (M t) l o = HandTurn (hand_at c t) l o
CallersTurn c part (P t) l o = Unit {0}
CallersTurn c part C l o = DriverTurn c.stand part o

pub record IsTheirTurn (c : Callers) (part : Part) (t : Thread) (l : ℕ) (o : Op) : Type 0 where
  pub event : IsEvent t o
  pub line : slice_index c.lines (caller_place t) ≤ l
  pub turn : CallersTurn c part t l o

-- what an event cites, and what the cited entry gave
abbrev pub AdoptCites : Doing → PNum → HNum → Option ℕ → Type 0
AdoptCites (doing.Made n line p h sort f) p' h' cites = (cites ≡ Some n) × (p'.0 ≡ p.0) × (h'.0 ≡ h.0)
AdoptCites _ p' h' cites = ⊥

abbrev pub LandCites : Doing → Op → Option ℕ → Type 0
LandCites (doing.Lent n line h x) (op.Land h' x') cites = (cites ≡ Some n) × (h'.0 ≡ h.0) × (x'.0 ≡ x.0)
LandCites _ o cites = ⊥

abbrev pub MeetCites : Doing → Op → Option ℕ → Type 0
MeetCites (doing.Gripped n line p h sort f) (op.Meet v sort' f' p' h') cites = (cites ≡ Some n)
    × (p'.0 ≡ p.0) × (h'.0 ≡ h.0) × (sort' ≡ sort) × (f' ≡ f)
MeetCites _ o cites = ⊥

abbrev pub ReleaseCites : Doing → HNum → Option ℕ → Type 0
ReleaseCites (doing.Given n line h) h' cites = (cites ≡ Some n) × (h'.0 ≡ h.0)
ReleaseCites (doing.Met n line h) h' cites = (cites ≡ Some n) × (h'.0 ≡ h.0)
ReleaseCites _ h' cites = ⊥

abbrev pub HandCites : Doing → Op → Option ℕ → Type 0
HandCites d (op.Adopt v kind k p h) cites = AdoptCites d p h cites
HandCites d (op.Land h x) cites = LandCites d (op.Land h x) cites
HandCites d (op.Meet v sort f p h) cites = MeetCites d (op.Meet v sort f p h) cites
HandCites d (op.Release h) cites = ReleaseCites d h cites
HandCites d _ cites = cites ≡ None

abbrev pub MirrorCites : Stand → ℕ → Option ℕ → Type 0
MirrorCites (stand.Contracted o) k cites = (o.cycle.0 ≡ k) × (cites ≡ Some o.snap)
MirrorCites _ k cites = ⊥

abbrev pub WeakenCites : Stand → Option ℕ → Type 0
WeakenCites (stand.Weakening o count weakened swept) cites = cites ≡ Some o.snap
WeakenCites _ cites = ⊥

abbrev pub ResolveCites : Stand → ℕ → Option ℕ → Type 0
ResolveCites (stand.Restored o clear) k cites = (o.cycle.0 ≡ k) × (cites ≡ Some clear)
ResolveCites _ k cites = ⊥

abbrev pub DriverCites : Stand → Op → Option ℕ → Type 0
DriverCites d (op.Mirror k) cites = MirrorCites d k.0 cites
DriverCites d (op.Weaken h) cites = WeakenCites d cites
DriverCites d (op.Resolve k) cites = ResolveCites d k.0 cites
DriverCites d _ cites = cites ≡ None

abbrev pub CitesIn : Callers → Thread → Op → Option ℕ → Type 0
CitesIn c (M t) o cites = HandCites (hand_at c t) o cites
CitesIn c (P t) o cites = cites ≡ None
CitesIn c C o cites = DriverCites c.stand o cites

-- the half of an operation after an event with that number, line and reply
abbrev pub hand_after : ℕ → ℕ → Op → Reply → Doing
hand_after n l (op.Make sort f) (says.Made p h) = doing.Made n l p h sort f
hand_after n l (op.Lend v x) (says.H h) = doing.Lent n l h x
hand_after n l (op.Grip x) (says.Gripped p h sort f) = doing.Gripped n l p h sort f
hand_after n l (op.Give v) (says.H h) = doing.Given n l h
hand_after n l (op.Meet v sort f p h) (says.New m) = doing.Free
hand_after n l (op.Meet v sort f p h) reply = doing.Met n l h
hand_after n l _ reply = doing.Free

-- a refusal in the weakened phase shows that the driver has come to it
abbrev pub seen_after : Bool → Phase → Bool
seen_after weakened at.Weakened = true
seen_after weakened _ = weakened

-- where the driver stands after its event with that number; a word that was refused was so in that phase
abbrev pub stand_after : Stand → ℕ → Op → Phase → Stand
stand_after d n (op.Snap k) phase = stand.Snapped record { cycle = k; snap = n }
stand_after (stand.Snapped o) n (op.Contract k) phase = stand.Contracted o
stand_after (stand.Contracted o) n (op.Mirror k) phase = stand.Weakening o 0 false false
stand_after (stand.Weakening o count weakened swept) n (op.Weaken h) phase = stand.Weakening o (count + 1) true swept
stand_after (stand.Weakening o count weakened swept) n op.Sweep phase = stand.Weakening o count true true
stand_after (stand.Weakening o count weakened swept) n op.Begin phase = stand.Marked o
stand_after (stand.Weakening o count weakened swept) n
    (op.Refused w) phase = stand.Weakening o count (seen_after weakened phase) swept
stand_after (stand.Marked o) n op.Sweep phase = stand.Restoring o 0
stand_after (stand.Restoring o count) n (op.Restore h) phase = stand.Restoring o (count + 1)
stand_after (stand.Restoring o count) n (op.Clear k) phase = stand.Restored o n
stand_after d n (op.Resolve k) phase = stand.Idle
stand_after d n (op.Abandon k) phase = stand.Idle
stand_after d n _ phase = d

-- what is kept after an entry
abbrev pub callers_after : Callers → ℕ → Thread → ℕ → Op → Reply → Phase → Callers
callers_after c n (M t) l o reply phase = record c
    { hands = slice_set c.hands t (hand_after n l o reply); lines = slice_set c.lines (caller_place (M t)) l }
callers_after c n (P t) l o reply phase = record c { lines = slice_set c.lines (caller_place (P t)) l }
callers_after c n C l o reply phase = record c { lines = slice_set c.lines 0 l; stand = stand_after c.stand n o phase }

-- fewer events of the phase were made than its type can count
abbrev pub HasCount : Stand → Type 0
HasCount (stand.Weakening o count weakened swept) = count < u32_max
HasCount (stand.Restoring o count) = count < u32_max
HasCount _ = Unit {0}

-- nothing has to follow: no handle of a thread waits for its release, and no phase is half done
pub record AreDone (c : Callers) (candidates : ℕ) : Type 0 where
  pub hands : All MayBegin c.hands
  pub driver : IsResting c.stand candidates
