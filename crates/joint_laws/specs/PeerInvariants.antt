-- What every state of the peer side keeps, in a linked history.
use Rattle.std.specs.Prelude.{◌≡◌, ℕ, ◌≤◌, ◌⊎◌, List, length, Contains, true, false, Option, Some, None}
use Rattle.joint_machine.specs.Heaps.{Heap, IsMade, IsLive, InSlot, fields_of, numbered_at}
use Rattle.joint_machine.specs.Peers.{Issued, held, raw, strong}
use Rattle.joint_machine.specs.PeerReplay.{PeerReplay, TableRow, Mirror, Marking, MarkingEdge, IsMarked, Refers}
use Rattle.joint_machine.specs.Components.{End}

-- nothing that was freed is named: slots and fields of unfreed objects name unfreed objects
pub record HeapInvariant (h : Heap) : Type 0 where
  pub freed : (x : ℕ) → Contains h.freed x → IsMade h x
  pub slots : (x : ℕ) → InSlot h x → IsLive h x
  pub fields : (x y : ℕ) → IsLive h x → Contains (fields_of h x) (Some y) → IsLive h y

-- the handle has that row in the table
abbrev pub IsTabled : List (Option TableRow) → ℕ → TableRow → Type 0
IsTabled table n row = numbered_at table n ≡ Some (Some row)

-- the handle was issued so
abbrev pub IsIssued : List Issued → ℕ → Issued → Type 0
IsIssued issued n i = numbered_at issued n ≡ Some i

-- a handle of the table is cleared exactly where its peer is freed, and a strong one isn't; a raw one has the strength
-- that it was made with; and names have raw handles
pub record HandlesInvariant (h : Heap) (issued : List Issued)
    (table : List (Option TableRow)) (names : List (Option ℕ)) : Type 0 where
  pub places : length table ≡ length issued
  pub peers : (n : ℕ) (i : Issued) → IsIssued issued n i → IsMade h i.peer
  pub uncleared : (n : ℕ) (row : TableRow) (i : Issued) → IsTabled table n row
      → IsIssued issued n i → row.cleared ≡ false → IsLive h i.peer
  pub cleared : (n : ℕ) (row : TableRow) (i : Issued) → IsTabled table n row
      → IsIssued issued n i → row.cleared ≡ true → Contains h.freed i.peer
  pub sure : (n : ℕ) (row : TableRow) → IsTabled table n row → row.strength ≡ strong → row.cleared ≡ false
  pub raws : (n : ℕ) (row : TableRow) (i : Issued) → IsTabled table n row
      → IsIssued issued n i → i.hold ≡ raw → row.strength ≡ i.strength
  pub named : (n : ℕ) → Contains names (Some n) → (i : Issued) × IsIssued issued n i × (i.hold ≡ raw)

-- the source of a mirrored reference was made, and where it is unfreed so is the target; references stand only while a
-- cycle is mirrored; and only held handles are weakened
pub record ReferencesInvariant (h : Heap) (issued : List Issued)
    (refs : List (End × End)) (mirror : Option Mirror) : Type 0 where
  pub made : (p q : ℕ) → Refers refs p q → IsMade h p
  pub live : (p q : ℕ) → Refers refs p q → IsLive h p → IsLive h q
  pub none : mirror ≡ None → (p q : ℕ) → Refers refs p q → ⊥
  pub weakened : (m : Mirror) (n : ℕ) → mirror ≡ Some m → Contains m.weakened n
      → (i : Issued) × IsIssued issued n i × (i.hold ≡ held)

-- the marking's sweep will spare the peer: it was made since the begin, or the marking reaches it
abbrev pub IsSpared : Marking → ℕ → Type 0
IsSpared mk p = IsLive mk.heap p → (IsMarked mk p → ⊥) → ⊥

-- while a marking is open: the peers of its begin are unfreed; each edge of now is one of its begin, or leads to a
-- spared peer; and peers in slots and under strong handles are spared
pub record MarkingInvariant (h : Heap) (issued : List Issued)
    (table : List (Option TableRow)) (refs : List (End × End)) (mk : Marking) : Type 0 where
  pub made : length mk.heap.fields ≤ length h.fields
  pub existed : (p : ℕ) → IsLive mk.heap p → IsLive h p
  pub fields : (p q : ℕ) → IsLive h p → Contains (fields_of h p) (Some q) → MarkingEdge mk p q ⊎ IsSpared mk q
  pub references : (p q : ℕ) → IsLive h p → Refers refs p q → MarkingEdge mk p q ⊎ IsSpared mk q
  pub slots : (p : ℕ) → InSlot h p → IsSpared mk p
  pub strong_ones : (n : ℕ) (row : TableRow) (i : Issued) → IsTabled table n row
      → row.strength ≡ strong → IsIssued issued n i → IsSpared mk i.peer

-- all of it
pub record PeerInvariant (s : PeerReplay) : Type 0 where
  pub heap : HeapInvariant s.peers.heap
  pub handles : HandlesInvariant s.peers.heap s.peers.issued s.table s.peers.names
  pub references : ReferencesInvariant s.peers.heap s.peers.issued s.refs s.mirror
  pub marking : (mk : Marking) → s.marking ≡ Some mk → MarkingInvariant s.peers.heap s.peers.issued s.table s.refs mk
