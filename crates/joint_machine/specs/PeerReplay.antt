-- The peer side by itself: its entries, by rising number, replayed, with the strengths of handles as they are now, the
-- mirrored references and the open marking. (The Xamarin.Android documentation: a bridge collection adds references
-- between peers, makes the global references weak, collects, looks which are left, makes those strong again and
-- removes the added references. Tri-colour marking is textbook.)
-- Believed: the clauses of the program's top call rest on all that stands here.
use Rattle.std.specs.Prelude.{◌≡◌, ℕ, ◌+◌, ◌-◌, ◌⊎◌, ◌↔◌, Bool, true, false, ◌||◌, min, nat_eq, nat_lt, if◌then◌else◌}
use Rattle.std.specs.Prelude.{List, [], ◌∷◌, ◌++◌, length, map, All, Contains, Option, Some, None}
use Rattle.std.specs.List.{list_any}
use Rattle.joint_machine.specs.declared.names.Thread.{Thread}
use Rattle.joint_machine.specs.declared.names.Thread.TheVariants.{M, P, C}
use Rattle.joint_machine.specs.declared.lines.Act.{Act}
use Rattle.joint_machine.specs.declared.lines.Act.TheVariants as act
use Rattle.joint_machine.specs.declared.events.Op.{Op}
use Rattle.joint_machine.specs.declared.events.Op.TheVariants as op
use Rattle.joint_machine.specs.declared.events.Reply.{Reply}
use Rattle.joint_machine.specs.declared.events.Reply.TheVariants as says
use Rattle.joint_machine.specs.Components.{Rises, End, node, temporary}
use Rattle.joint_machine.specs.Heaps.{Heap, IsLive, HasField, InSlot, Answered, answer, slot, numbered_at, numbered_set}
use Rattle.joint_machine.specs.Heaps.{not_here, with_freed, freed_span}
use Rattle.joint_machine.specs.Peers.{Peers, opening_peers, peer_line, pair_made, gripped, landed, issued_since}
use Rattle.joint_machine.specs.Peers.{peer_of, next_handle, with_renewed, Issued, held, Strength, strong, weak}
use Rattle.joint_machine.specs.Peers.{is_strong}
use Rattle.joint_machine.specs.Run.{thread_number}
use Rattle.joint_machine.specs.Told.{Told, nothing, references_of, slice_of, sweep_of}
use Rattle.joint_machine.specs.Walks.{Reached}

-- a handle in the table: its strength now, and whether its peer was freed
pub record TableRow : Type 0 where
  pub strength : Strength
  pub cleared : Bool

-- a mirrored cycle: its number, the number of the snap entry that its entries cite, the handles weakened and restored
-- in it, and the new handles that the restores gave
pub record Mirror : Type 0 where
  pub cycle : ℕ
  pub snap : ℕ
  pub weakened : List ℕ
  pub restored : List ℕ
  pub renewed : List ℕ

-- an open marking: its number and thread; the heap, the mirrored references and the peers of strong handles as they
-- stood at its begin; the peers brought back since; and how many objects its slices have blackened
pub record Marking : Type 0 where
  pub number : ℕ
  pub by : Thread
  pub heap : Heap
  pub refs : List (End × End)
  pub strong_peers : List ℕ
  pub brought : List ℕ
  pub blackened : ℕ

-- `table` has a place for each handle issued, which is empty once the handle was removed; `mirrors` has the cycles
-- that were ever mirrored
pub record PeerReplay : Type 0 where
  pub peers : Peers
  pub table : List (Option TableRow)
  pub refs : List (End × End)
  pub mirror : Option Mirror
  pub mirrors : List ℕ
  pub marking : Option Marking
  pub markings : ℕ

-- nothing is there
abbrev pub opening_peer_replay : PeerReplay
opening_peer_replay = record {
  peers = opening_peers;
  table = [];
  refs = [];
  mirror = None;
  mirrors = [];
  marking = None;
  markings = 0;
}

-- the row of a handle; None where it isn't in the table
abbrev pub row_of : PeerReplay → ℕ → Option TableRow
row_of s h = elim (numbered_at s.table h) [ None ↦ None | Some row ↦ row ]

-- where a handle leads: to its peer, unless it isn't in the table or is cleared
abbrev pub table_target : PeerReplay → ℕ → Option ℕ
table_target s h = elim (row_of s h) [ None ↦ None | Some row ↦ if row.cleared then None else peer_of s.peers.issued h ]

-- the row of a handle that was just issued
abbrev pub fresh_row : Issued → Option TableRow
fresh_row i = Some record { strength = i.strength; cleared = false }

-- the peers of the strong handles of the table
abbrev pub strong_peers : List Issued → List (Option TableRow) → List ℕ
strong_peers [] rows = []
strong_peers (i ∷ is) [] = []
strong_peers (i ∷ is) (None ∷ rows) = strong_peers is rows
strong_peers (i ∷ is) (Some row ∷ rows) = if is_strong row.strength
    then i.peer ∷ strong_peers is rows else strong_peers is rows

-- the table with each handle on one of these peers cleared
abbrev pub cleared_rows : List ℕ → List Issued → List (Option TableRow) → List (Option TableRow)
cleared_rows freed [] rows = rows
cleared_rows freed (i ∷ is) [] = []
cleared_rows freed (i ∷ is) (None ∷ rows) = None ∷ cleared_rows freed is rows
cleared_rows freed (i ∷ is) (Some row ∷ rows) = Some
    (record row { cleared = row.cleared || list_any (nat_eq i.peer) freed }) ∷ cleared_rows freed is rows

-- a root of the marking: a peer in a slot or under a strong handle at its begin, or brought back since
abbrev pub IsMarkingRoot : Marking → ℕ → Type 0
IsMarkingRoot mk p = InSlot mk.heap p ⊎ Contains mk.strong_peers p ⊎ Contains mk.brought p

-- references of the list lead from an end over these temporaries, one after the other, to a peer
abbrev pub LeadsOver : List (End × End) → End → List ℕ → ℕ → Type 0
LeadsOver refs e [] q = Contains refs (e, node q)
LeadsOver refs e (t ∷ ts) q = Contains refs (e, temporary t) × LeadsOver refs (temporary t) ts q

-- the references of the list lead from one peer to another, directly or through temporaries
pub record Refers (refs : List (End × End)) (p q : ℕ) : Type 0 where
  pub through : List ℕ
  pub walk : LeadsOver refs (node p) through q

-- mirrored references lead from an unfreed peer to another unfreed one, directly or through temporaries
pub record HasReference (h : Heap) (refs : List (End × End)) (p q : ℕ) : Type 0 where
  pub live : IsLive h p
  pub reference : Refers refs p q
  pub there : IsLive h q

-- an edge of the marking: a field or a mirrored reference, as they stood at its begin
abbrev pub MarkingEdge : Marking → ℕ → ℕ → Type 0
MarkingEdge mk p q = HasField mk.heap p q ⊎ HasReference mk.heap mk.refs p q

-- the peer existed at the begin, and the marking reaches it: its roots, or a peer brought back since, over the edges
-- of the begin
pub record IsMarked (mk : Marking) (p : ℕ) : Type 0 where
  pub existed : IsLive mk.heap p
  pub reached : Reached (IsMarkingRoot mk) (MarkingEdge mk) p

-- an event of the peers alone: the handles that it issues come into the table
abbrev pub on_table : PeerReplay → Answered Peers → Answered PeerReplay
on_table s a = answer a.reply (record s
    { peers = a.state; table = s.table ++ map fresh_row (issued_since s.peers a.state) })

-- the marking with a further peer brought back
abbrev pub brought_to : Option Marking → ℕ → Option Marking
brought_to None p = None
brought_to (Some mk) p = Some (record mk { brought = mk.brought ++ p ∷ [] })

-- the peer that a reply names is brought back, if a marking is open
abbrev pub bring_by : Answered PeerReplay → Reply → Answered PeerReplay
bring_by a (says.P p) = answer a.reply (record a.state { marking = brought_to a.state.marking p.0 })
bring_by a r = a

-- the event's peer, if it names one, is brought back
abbrev pub brings : Answered PeerReplay → Answered PeerReplay
brings a = bring_by a a.reply

-- a handle leaves the table
abbrev pub untabled : PeerReplay → Option ℕ → PeerReplay
untabled s None = s
untabled s (Some h) = record s { table = numbered_set s.table h None }

-- an event of a peer thread's line
abbrev pub peer_thread_line : PeerReplay → ℕ → Act → Answered PeerReplay
peer_thread_line s t (act.UnGlobal g) = on_table (untabled s (slot s.peers.names g.0))
    (peer_line (table_target s) s.peers t (act.UnGlobal g))
peer_thread_line s t (act.WRead v g) = brings (on_table s (peer_line (table_target s) s.peers t (act.WRead v g)))
peer_thread_line s t a = on_table s (peer_line (table_target s) s.peers t a)

-- whether two threads are the same
abbrev pub is_thread : Thread → Thread → Bool
is_thread (M a) (M b) = nat_eq a b
is_thread (P a) (P b) = nat_eq a b
is_thread C C = true
is_thread _ _ = false

-- a slice of a peer thread: so many objects of the closure are blackened, or as many as are left
abbrev pub sliced : PeerReplay → Option Marking → Thread → ℕ → List ℕ → Answered PeerReplay
sliced s None t n closure = answer says.NoMark s
sliced s (Some mk) t n closure = if is_thread t mk.by
    then (let black = mk.blackened + min n (length closure - mk.blackened) in
    answer (if nat_lt black (length closure) then says.More else says.Done)
    (record s { marking = Some (record mk { blackened = black }) }))
    else answer (says.MarkOpen record { 0 = mk.number }) s

-- a begin: the next marking is opened, unless one is open
abbrev pub begun : PeerReplay → Option Marking → Thread → Answered PeerReplay
begun s None t = answer (says.Mark record { 0 = s.markings + 1 }) (record s {
  marking = Some record {
    number = s.markings + 1;
    by = t;
    heap = s.peers.heap;
    refs = s.refs;
    strong_peers = strong_peers s.peers.issued s.table;
    brought = [];
    blackened = 0;
  };
  markings = s.markings + 1;
})
begun s (Some mk) t = answer (says.MarkOpen record { 0 = mk.number }) s

-- peers are freed: the handles on them are cleared, and the marking ends
abbrev pub swept_of : PeerReplay → Marking → List ℕ → Answered PeerReplay
swept_of s mk freed = answer (says.Swept record { 0 = mk.number } (freed_span s.peers.heap freed)) (record s {
  peers = record s.peers { heap = with_freed s.peers.heap freed };
  table = cleared_rows freed s.peers.issued s.table;
  marking = None;
})

-- a sweep, which a peer thread is refused without a marking or during another thread's
abbrev pub swept : PeerReplay → Option Marking → Thread → List ℕ → Answered PeerReplay
swept s None t freed = answer says.NoMark s
swept s (Some mk) t freed = if is_thread t C || is_thread t mk.by then swept_of s mk freed else answer
    (says.MarkOpen record { 0 = mk.number }) s

-- the mirror with a further handle weakened, or restored
abbrev pub with_weakened : Option Mirror → ℕ → Option Mirror
with_weakened None h = None
with_weakened (Some m) h = Some (record m { weakened = m.weakened ++ h ∷ [] })

abbrev pub with_restored : Option Mirror → ℕ → Option Mirror
with_restored None h = None
with_restored (Some m) h = Some (record m { restored = m.restored ++ h ∷ [] })

-- the mirror with a further handle that a restore gave
abbrev pub with_given : Option Mirror → ℕ → Option Mirror
with_given None h = None
with_given (Some m) h = Some (record m { renewed = m.renewed ++ h ∷ [] })

-- the handle is restored, and leaves the table
abbrev pub withdrawn : PeerReplay → ℕ → PeerReplay
withdrawn s h = record s { table = numbered_set s.table h None; mirror = with_restored s.mirror h }

-- a held strong handle on the peer comes into the table, in place of one that a restore removed, and the peer is
-- brought back, if a marking is open
abbrev pub given_anew : PeerReplay → ℕ → PeerReplay
given_anew s p = record s {
  peers = with_renewed s.peers p;
  table = s.table ++ fresh_row record { peer = p; hold = held; strength = strong } ∷ [];
  mirror = with_given s.mirror (next_handle s.peers);
  marking = brought_to s.marking p;
}

-- a restore of a handle that isn't cleared, by its peer: the peer gets a handle with the next number
abbrev pub renewed_on : PeerReplay → ℕ → Option ℕ → Answered PeerReplay
renewed_on s h None = answer says.Cleared (withdrawn s h)
renewed_on s h (Some p) = answer (says.Renewed record { 0 = next_handle s.peers }) (given_anew (withdrawn s h) p)

-- a restore by the handle's row: the handle is removed, and its peer gets a new one unless it was cleared
abbrev pub restored_by : PeerReplay → ℕ → Option TableRow → Answered PeerReplay
restored_by s h None = answer says.Cleared s
restored_by s h (Some row) = if row.cleared then answer says.Cleared
    (withdrawn s h) else renewed_on s h (peer_of s.peers.issued h)

-- the mirrored references come to stand
abbrev pub mirrored : PeerReplay → ℕ → Option ℕ → List (End × End) → PeerReplay
mirrored s k None refs = s
mirrored s k (Some snap) refs = record s {
  refs = refs;
  mirror = Some record { cycle = k; snap = snap; weakened = []; restored = []; renewed = [] };
  mirrors = s.mirrors ++ k ∷ [];
}

-- the reply to each peer event, and the state after it, given what it cites and what is told beside it
abbrev pub peer_answer : PeerReplay → Thread → Op → Option ℕ → Told → Answered PeerReplay
peer_answer s t (op.Line (act.Slice n)) cites (slice_of closure) = sliced s s.marking t n closure
peer_answer s t (op.Line (act.Slice n)) cites _ = sliced s s.marking t n []
peer_answer s t (op.Line a) cites told = peer_thread_line s (thread_number t) a
peer_answer s t (op.Make sort n) cites told = on_table s (pair_made s.peers sort n)
peer_answer s t (op.Land h x) cites told = brings (on_table s (landed s.peers x.0 (table_target s h.0)))
peer_answer s t (op.Grip x) cites told = on_table s (gripped s.peers x.0)
peer_answer s t (op.Release h) cites told = answer says.Ok (untabled s (Some h.0))
peer_answer s t (op.Mirror k) cites (references_of refs) = answer (says.Refs (length refs)) (mirrored s k.0 cites refs)
peer_answer s t (op.Weaken h) cites told = answer says.Ok
    (record s {
      table = numbered_set s.table h.0 (Some record { strength = weak; cleared = false });
      mirror = with_weakened s.mirror h.0;
    })
peer_answer s t op.Begin cites told = begun s s.marking t
peer_answer s t op.Sweep cites (sweep_of freed) = swept s s.marking t freed
peer_answer s t op.Sweep cites _ = swept s s.marking t []
peer_answer s t (op.Restore h) cites told = restored_by s h.0 (row_of s h.0)
peer_answer s t (op.Clear k) cites told = answer says.Ok (record s { refs = []; mirror = None })
peer_answer s t _ cites told = not_here s

-- the handle is held
abbrev pub IsHeld : PeerReplay → ℕ → Type 0
IsHeld s h = (i : Issued) × (numbered_at s.peers.issued h ≡ Some i) × (i.hold ≡ held)

-- no cycle is mirrored, this one never was, and it cites a number
pub record MayMirror (s : PeerReplay) (k : ℕ) (cites : Option ℕ) : Type 0 where
  pub none_stands : s.mirror ≡ None
  pub once : Contains s.mirrors k → ⊥
  pub snap : ℕ
  pub cited : cites ≡ Some snap

-- the handle is held and strong, and its cycle's mirror stands: it cites the snap that the mirror cites
pub record MayWeaken (s : PeerReplay) (h : ℕ) (cites : Option ℕ) : Type 0 where
  pub mirror : Mirror
  pub stands : s.mirror ≡ Some mirror
  pub cited : cites ≡ Some mirror.snap
  pub is_held : IsHeld s h
  pub strong_now : row_of s h ≡ Some record { strength = strong; cleared = false }

-- the handle was weakened in the mirrored cycle, isn't restored, and is in the table
pub record MayRestore (s : PeerReplay) (h : ℕ) : Type 0 where
  pub mirror : Mirror
  pub stands : s.mirror ≡ Some mirror
  pub weakened : Contains mirror.weakened h
  pub waiting : Contains mirror.restored h → ⊥
  pub row : TableRow
  pub tabled : row_of s h ≡ Some row

-- cycle k is mirrored, and each handle weakened in it is restored
pub record MayClear (s : PeerReplay) (k : ℕ) : Type 0 where
  pub mirror : Mirror
  pub stands : s.mirror ≡ Some mirror
  pub same : mirror.cycle ≡ k
  pub all : All (Contains mirror.restored) mirror.weakened

-- what the table asks of a release: the handle is held and in the table
pub record MayRelease (s : PeerReplay) (h : ℕ) : Type 0 where
  pub is_held : IsHeld s h
  pub row : TableRow
  pub tabled : row_of s h ≡ Some row

-- the list has exactly the peers that existed at the begin and that the marking reaches so far
pub record IsClosure (mk : Marking) (closure : List ℕ) : Type 0 where
  pub rise : Rises closure
  pub exact : (p : ℕ) → Contains closure p ↔ IsMarked mk p

-- the list has exactly the unfreed peers that existed at the begin and that the marking doesn't reach
pub record IsSweep (s : PeerReplay) (mk : Marking) (freed : List ℕ) : Type 0 where
  pub rise : Rises freed
  pub exact : (p : ℕ) → Contains freed p ↔ (IsLive s.peers.heap p × IsLive mk.heap p × (IsMarked mk p → ⊥))

-- what a slice is told: the closure, where its own marking is open
abbrev pub SliceAllows : Option Marking → Thread → Told → Type 0
SliceAllows None t nothing = Unit {0}
SliceAllows (Some mk) t (slice_of closure) = (t ≡ mk.by) × IsClosure mk closure
SliceAllows (Some mk) t nothing = t ≡ mk.by → ⊥
SliceAllows _ t _ = ⊥

-- what a sweep is told: the peers that it frees, where a marking is open that the thread may end
abbrev pub SweepAllows : PeerReplay → Option Marking → Thread → Told → Type 0
SweepAllows s None (P n) nothing = Unit {0}
SweepAllows s (Some mk) t (sweep_of freed) = ((t ≡ C) ⊎ (t ≡ mk.by)) × IsSweep s mk freed
SweepAllows s (Some mk) (P n) nothing = P n ≡ mk.by → ⊥
SweepAllows s _ _ _ = ⊥

-- what an event asks for, beside its reply
abbrev pub PeerAllows : PeerReplay → Thread → Op → Option ℕ → Told → Type 0
PeerAllows s t (op.Line (act.Slice n)) cites told = SliceAllows s.marking t told
PeerAllows s t (op.Line a) cites nothing = Unit {0}
PeerAllows s t (op.Make sort n) cites nothing = Unit {0}
PeerAllows s t (op.Land h x) cites nothing = Unit {0}
PeerAllows s t (op.Grip x) cites nothing = Unit {0}
PeerAllows s t (op.Release h) cites nothing = MayRelease s h.0
PeerAllows s t (op.Mirror k) cites (references_of refs) = MayMirror s k.0 cites
PeerAllows s t (op.Weaken h) cites nothing = MayWeaken s h.0 cites
PeerAllows s t op.Begin cites nothing = Unit {0}
PeerAllows s t op.Sweep cites told = SweepAllows s s.marking t told
PeerAllows s t (op.Restore h) cites nothing = MayRestore s h.0
PeerAllows s t (op.Clear k) cites nothing = MayClear s k.0
PeerAllows s _ _ _ _ = ⊥
