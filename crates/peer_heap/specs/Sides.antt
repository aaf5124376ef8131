-- The peer side, as its contracts see it: for how many threads it is, its entries, and the state of their replay. (This
-- project's own.)
use Rattle.std.specs.Prelude.{◌≡◌, ◌≢◌, ℕ, ◌+◌, ◌≤◌, ◌<◌, ◌⊎◌, ◌↔◌, All, Bool, true, false, Contains, List, length, []}
use Rattle.std.specs.Prelude.{◌∷◌, drop, flat_map, Option, Some, None, ◌%◌, ◌^◌}
use Rattle.std.specs.Option.{option_map}
use Rattle.joint_machine.specs.declared.names.Marking.{Marking as Number}
use Rattle.joint_machine.specs.declared.names.Span.{Span}
use Rattle.joint_machine.specs.declared.names.Thread.{Thread}
use Rattle.joint_machine.specs.declared.names.Thread.TheVariants.{C}
use Rattle.joint_machine.specs.declared.lines.Act.TheVariants as act
use Rattle.joint_machine.specs.declared.events.Entry.{Entry}
use Rattle.joint_machine.specs.declared.events.Made.{Made}
use Rattle.joint_machine.specs.declared.events.Op.{Op}
use Rattle.joint_machine.specs.declared.events.Op.TheVariants as op
use Rattle.joint_machine.specs.declared.events.Reply.{Reply}
use Rattle.joint_machine.specs.declared.events.Reply.TheVariants as says
use Rattle.joint_machine.specs.Components.{End, Rises}
use Rattle.joint_machine.specs.Draws.{Drawing}
use Rattle.joint_machine.specs.Heaps.{Heap, IsLive, numbered_at}
use Rattle.joint_model.specs.Listed.{Stock}
use Rattle.joint_machine.specs.Peers.{Issued, peer_of}
use Rattle.joint_machine.specs.PeerReplay.{PeerReplay, Marking, opening_peer_replay, strong_peers}
use Rattle.joint_machine.specs.Sides.{Side, AddsLawful, peer_rules, IsReplayed, step_made}
use Rattle.joint_machine.specs.Told.{Told}
use Rattle.joint_laws.specs.PeerInvariants.{PeerInvariant}
use Rattle.marking_laws.specs.Marks.{EdgeNow}
use Rattle.row_heap.specs.Rows.{HeapRows, opening_rows}
use Rattle.row_marking.specs.Traces.{Blackens, IsGreyList, greys as grey_list, BlackensTo, Chained}
use Rattle.peer_heap.specs.declared.mirroring.OpenMirror.{OpenMirror}
use Rattle.peer_heap.specs.declared.side.BeginFault.{BeginFault}
use Rattle.peer_heap.specs.declared.side.BeginFault.TheVariants.{OutOfMemory, MarkOpen}
use Rattle.peer_heap.specs.declared.side.OpenMarking.{OpenMarking}
use Rattle.peer_heap.specs.declared.side.SliceEnd.{SliceEnd}
use Rattle.peer_heap.specs.declared.side.SliceEnd.TheVariants.{Done, More}
use Rattle.peer_heap.specs.Marks.{IsGoing}
use Rattle.peer_heap.specs.Mirrors.{Mirrors, AreMirrored, AreWithin, mirror_in, mirrors_in, owes, restored_at}
use Rattle.peer_heap.specs.Rows.{Rows, with_rows}
use Rattle.row_heap.specs.Marks.{EdgeOf}
use Rattle.marking_laws.specs.Slices.{IsBlack}
use Rattle.joint_machine.specs.Numbers.{u32_max}

-- what is reserved for mirrored cycles: the references that wait, and for how many more and for how many temporaries
-- there is room; for how many handles room is taken for the cycle that is mirrored next; and how many handles the
-- mirrored one may still weaken, and whether its own marking is still to come
pub record Reserve : Type 0 where
  pub waiting : List (End × End)
  pub refs : ℕ
  pub temps : ℕ
  pub next : Option ℕ
  pub left : ℕ
  pub marking : Bool

-- how many handles the mirrored cycle may still weaken, and whether its own marking is still to come; none and not
-- where no cycle is mirrored
abbrev pub left_of : Option OpenMirror → ℕ
left_of None = 0
left_of (Some m) = m.left

abbrev pub is_to_mark : Option OpenMirror → Bool
is_to_mark None = false
is_to_mark (Some m) = m.marking

abbrev pub reserve_of : Mirrors → Reserve
reserve_of m = record {
  waiting = m.waiting;
  refs = m.room;
  temps = m.temps;
  next = m.next;
  left = left_of m.mirror;
  marking = is_to_mark m.mirror;
}

-- a begin is that of the mirrored cycle's own marking: the driver makes it, and it is still to come
abbrev pub is_own : Thread → Bool → Bool
is_own C b = b
is_own t b = false

-- what a begin leaves reserved: that of the cycle's own marking takes what was reserved for it
abbrev pub reserve_begun : Bool → Reserve → Reserve
reserve_begun true r = record r { marking = false }
reserve_begun false r = r

-- nothing is reserved
abbrev pub no_reserve : Reserve
no_reserve = record { waiting = []; refs = 0; temps = 0; next = None; left = 0; marking = false }

-- the colours of the peers: which have a mark, which of these are grey, and whether the marking follows references
pub record Colours : Type 0 where
  pub marks : List Bool
  pub greys : List ℕ
  pub follows : Bool

abbrev pub colours_of : HeapRows → ℕ → Colours
colours_of v head = record { marks = v.marks; greys = grey_list v.links (length v.marks) head; follows = v.follows }

-- what is seen of the peer side: for how many peer threads it is, its entries, the state of their replay, and beside
-- these what is reserved and the colours of the peers
pub record PeerModel : Type 0 where
  pub threads : ℕ
  pub entries : List Entry
  pub state : PeerReplay
  pub reserve : Reserve
  pub colours : Colours

-- what both sides show
abbrev pub seen : PeerModel → Side PeerReplay
seen m = record { threads = m.threads; entries = m.entries; state = m.state }

-- a call of the peer side made one entry
abbrev pub AddsPeer : {D : Type 0} → Drawing D → D → D → PeerModel → PeerModel → Made → Told → Type 0
AddsPeer d before after old new made told = AddsLawful peer_rules d before after (seen old) (seen new) made told

-- a side for so many threads, on which nothing was made
abbrev pub opening_side : ℕ → PeerModel
opening_side threads = record {
  threads = threads;
  entries = [];
  state = opening_peer_replay;
  reserve = no_reserve;
  colours = colours_of opening_rows 0;
}

-- the peer that a reply names
abbrev pub named_in : Reply → List ℕ
named_in (says.P p) = p.0 ∷ []
named_in r = []

-- the peer of a handle, where one was issued
abbrev pub peers_at : Option ℕ → List ℕ
peers_at None = []
peers_at (Some p) = p ∷ []

-- the peer of a handle, where a restore gave another one on it
abbrev pub revived_in : List Issued → ℕ → Reply → List ℕ
revived_in issued h (says.Renewed g) = peers_at (peer_of issued h)
revived_in issued h r = []

-- the peer that an event of a name or a handle gave, or that a restore found alive: it is brought back if a marking is
-- open
abbrev pub brought_at : List Issued → Op → Reply → List ℕ
brought_at issued (op.Line (act.WRead v g)) r = named_in r
brought_at issued (op.Land h x) r = named_in r
brought_at issued (op.Restore h) r = revived_in issued h.0 r
brought_at issued o r = []

-- the peers that these entries brought back, and those from the nth on
abbrev pub brought_by : List Issued → List Entry → List ℕ
brought_by issued es = flat_map (λ e. brought_at issued e.made.op e.made.reply) es

abbrev pub brought_since : List Issued → ℕ → List Entry → List ℕ
brought_since issued n es = brought_by issued (drop n es)

-- an open marking: the rows are kept as they stood at its begin, what was brought back since stands in the entries, and
-- how many peers its thread's slices made black is counted
abbrev pub marking_as : List Issued → List Entry → OpenMarking → Marking
marking_as issued es m = record {
  number = m.number.0;
  by = m.by;
  heap = m.begin.value.rows.heap;
  refs = m.begin.value.rows.refs;
  strong_peers = strong_peers m.begin.value.issued m.begin.value.table;
  brought = brought_since issued m.from es;
  blackened = m.blackened;
}

abbrev pub marking_in : List Issued → List Entry → Option OpenMarking → Option Marking
marking_in issued es o = option_map (marking_as issued es) o

-- a state in which nothing is there but a mirrored cycle
abbrev pub mirror_state : List Entry → Mirrors → PeerReplay
mirror_state es m = record opening_peer_replay { mirror = mirror_in es m.mirror; mirrors = mirrors_in es }

-- the state that the parts show
abbrev pub state_with : List Entry → Rows → Option OpenMarking → ℕ → Mirrors → PeerReplay
state_with es rows o markings m = record (with_rows (mirror_state es m) rows)
    { refs = rows.rows.refs; marking = marking_in rows.issued es o; markings = markings }

-- the side that they show
abbrev pub model_with : ℕ → List Entry → Rows → Option OpenMarking → ℕ → ℕ → Mirrors → PeerModel
model_with threads es rows o head markings
    m = record {
      threads = threads;
      entries = es;
      state = state_with es rows o markings m;
      reserve = reserve_of m;
      colours = colours_of rows.rows head;
    }

-- the handle that an entry restores was issued
abbrev pub IsKnown : List Issued → Entry → Type 0
IsKnown issued e = (h : ℕ) → Contains (restored_at e.made.op) h → (i : Issued) × (numbered_at issued h ≡ Some i)

-- the entries of an open marking begin within the list
abbrev pub IsFrom : Option OpenMarking → ℕ → Type 0
IsFrom None n = Unit {0}
IsFrom (Some m) n = m.from ≤ n

-- an open marking owes the entry of its sweep
abbrev pub owed : Option OpenMarking → ℕ
owed None = 0
owed (Some m) = 1

-- what a begin makes that opens a marking, and what the sweep makes that ends it
abbrev pub begins : Thread → ℕ → Number → Made
begins t index j = step_made t index op.Begin (says.Mark j) None

abbrev pub ends : Thread → ℕ → Number → Span → Made
ends t index j freed = step_made t index op.Sweep (says.Swept j freed) None

-- a thread may end the open marking, if one is open: the driver, and the thread that began it
abbrev pub MayEnd : Option Marking → Thread → Type 0
MayEnd None t = Unit {0}
MayEnd (Some mk) t = (t ≡ C) ⊎ (t ≡ mk.by)

-- a marking is open, of this number, and the thread may end it
abbrev pub MarkingIsEnded : Option Marking → Thread → Number → Type 0
MarkingIsEnded None t j = ⊥
MarkingIsEnded (Some mk) t j = ((t ≡ C) ⊎ (t ≡ mk.by)) × (j.0 ≡ mk.number)

-- why no marking is begun: one is open, which is named, or there is no memory
abbrev pub IsFaultAt : BeginFault → Option Marking → Type 0
IsFaultAt OutOfMemory None = Unit {0}
IsFaultAt (MarkOpen j) (Some mk) = j.0 ≡ mk.number
IsFaultAt _ _ = ⊥

-- the number and the thread are those of the open marking, if one is open
abbrev pub IsMarkingOf : Option (Number × Thread) → Option Marking → Type 0
IsMarkingOf None None = Unit {0}
IsMarkingOf (Some m) (Some mk) = (m.0.0 ≡ mk.number) × (m.1 ≡ mk.by)
IsMarkingOf _ _ = ⊥

-- the side is the replay of its entries, in a state as lawful lists lead to; there is room for the release of each
-- handle of the table, for the sweep of an open marking, for what mirrored cycles owe, and for the references that
-- wait, with their temporaries; each marking and each handle has an entry; the entries have what is told of a mirrored
-- cycle, and name handles that were issued; and references stand only where a cycle is mirrored
pub record IsSide (rows : Rows) (o : Option OpenMarking) (markings : ℕ) (m : Mirrors) (stock : Stock) : Type 0 where
  pub replayed : IsReplayed peer_rules stock.entries (state_with stock.entries rows o markings m)
  pub kept : PeerInvariant (state_with stock.entries rows o markings m)
  pub room : rows.tabled + owed o + owes m ≤ stock.spare
  pub limit : length stock.entries + stock.spare ≤ u32_max
  pub few : markings ≤ length stock.entries
  pub issued : length rows.issued ≤ length stock.entries
  pub from : IsFrom o (length stock.entries)
  pub mirrored : AreMirrored stock.entries m.mirror
  pub known : All (IsKnown rows.issued) stock.entries
  pub bare : m.mirror ≡ None → rows.rows.refs ≡ []
  pub refs_room : length m.waiting + m.room ≤ rows.rows.room
  pub temps_room : m.temps ≤ rows.rows.temps
  pub temps_within : AreWithin rows.rows.temps m.waiting
  pub few_refs : length rows.rows.refs ≤ u32_max

-- the list of grey peers is one, and the open marking goes on with it
pub record AreGoing (rows : Rows) (o : Option OpenMarking)
    (head markings : ℕ) (m : Mirrors) (es : List Entry) : Type 0 where
  pub list : IsGreyList rows.rows.marks rows.rows.links head
  pub going : (mk : Marking) → marking_in rows.issued es o ≡ Some mk
      → IsGoing (state_with es rows o markings m) mk rows.rows head

-- the open marking, if one is open, was begun by the driver
abbrev pub IsDrivers : Option Marking → Type 0
IsDrivers None = Unit {0}
IsDrivers (Some mk) = mk.by ≡ C

-- at most n grey peers were made black, and as many as there were if fewer; what each leads to now is shaded
pub record IsSliced (n : ℕ) (s : PeerReplay) (old new : Colours) : Type 0 where
  pub count : ℕ
  pub most : count ≤ n
  pub steps : Blackens (EdgeNow s old.follows) count old.marks old.greys new.marks new.greys
  pub left : count < n → new.greys ≡ []
  pub follows : new.follows ≡ old.follows

-- whether peers are grey still after a slice
abbrev pub IsEndOf : SliceEnd → List ℕ → Type 0
IsEndOf Done greys = greys ≡ []
IsEndOf More greys = greys ≢ []

-- so many grey peers were made black by a slice of a thread, and counted
pub record BlackensBy (n : ℕ) (old : Rows) (before : ℕ) (o : OpenMarking)
    (new : Rows) (after : ℕ) (o' : OpenMarking) (r : Reply) : Type 0 where
  pub count : ℕ
  pub most : count ≤ n
  pub made : length old.rows.heap.fields ≤ 65535
  pub steps : (greys : List ℕ) → Chained old.rows.marks old.rows.links before greys
      → BlackensTo (EdgeOf old.rows) count old.rows.marks greys new.rows.marks new.rows.links after
  pub left : count < n → after ≡ 0
  pub rest : new ≡ record old { rows = record old.rows { marks = new.rows.marks; links = new.rows.links } }
  pub counted : o' ≡ record o { blackened = o'.blackened }
  pub sum : (o.blackened + count) % 2 ^ 32 ≡ o'.blackened
  pub done : after ≡ 0 → r ≡ says.Done
  pub more : after ≢ 0 → r ≡ says.More

-- a slice of a thread, by the open marking: only its own is carried on
abbrev pub SlicesMarking : ℕ → Thread → Rows → ℕ → OpenMarking → Rows → ℕ → OpenMarking → Reply → Type 0
SlicesMarking n t old before o new after o' r = ((t ≡ o.by) × BlackensBy n old before o new after o' r)
    ⊎ ((t ≢ o.by) × (r ≡ says.MarkOpen o.number) × (new ≡ old) × (after ≡ before) × (o' ≡ o))

-- and where one may be open
abbrev pub SlicesOpen : ℕ → Thread → Rows → ℕ → Option OpenMarking → Rows → ℕ → Option OpenMarking → Reply → Type 0
SlicesOpen n t old before None new after None r = (r ≡ says.NoMark) × (new ≡ old) × (after ≡ before)
SlicesOpen n t old before (Some o) new after (Some o') r = SlicesMarking n t old before o new after o' r
SlicesOpen n t old before _ new after _ r = ⊥

-- of the peers that were unfreed at the begin so many are black
pub record IsCount (begin : Heap) (marks : List Bool) (greys : List ℕ) (count : ℕ) : Type 0 where
  pub dark : List ℕ
  pub rise : Rises dark
  pub exact : (p : ℕ) → Contains dark p ↔ (IsLive begin p × IsBlack marks greys p)
  pub many : length dark ≡ count

-- where a peer thread began the open marking, the peers that are black are those that its slices made so and counted
abbrev pub AreCounted : Option OpenMarking → Colours → Type 0
AreCounted None c = Unit {0}
AreCounted (Some o) c = (o.by ≡ C → ⊥) → IsCount o.begin.value.rows.heap c.marks c.greys o.blackened
