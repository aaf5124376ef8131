-- What the marks keep while a marking goes on in slices, and its laws, one for each kind of event. (Textbook: a
-- tri-colour marking of the snapshot at its beginning, where a write shades what it overwrites; the rest is this
-- project's own.)
use Rattle.std.specs.Prelude.{◌≡◌, ◌≢◌, ℕ, suc, length, ◌↔◌, ◌⊎◌, ◌++◌, ◌∷◌, [], Bool, true, false, List, Contains}
use Rattle.std.specs.Prelude.{Option, Some, None, slice_get}
use Rattle.joint_machine.specs.declared.names.Sort.{Sort}
use Rattle.joint_machine.specs.declared.names.Thread.{Thread}
use Rattle.joint_machine.specs.Components.{Rises, End}
use Rattle.joint_machine.specs.Heaps.{IsLive, InSlot, fields_of, next_number, with_field}
use Rattle.joint_machine.specs.Peers.{with_peer}
use Rattle.joint_machine.specs.PeerReplay.{PeerReplay, Marking, IsMarked, IsMarkingRoot, IsClosure, IsSweep}
use Rattle.joint_machine.specs.PeerReplay.{MarkingEdge, HasReference, begun, mirrored}
use Rattle.joint_laws.specs.PeerInvariants.{PeerInvariant, IsSpared}
use Rattle.heap_rules.specs.Tidy.{CanFree}
use Rattle.reachability.specs.Marks.{HasMark, IsClosed}
use Rattle.marking_laws.specs.Marks.{EdgeNow, IsRootNow, IsWithoutMark}

-- a peer is white without a mark, grey in the list, and black with a mark and not in the list. What was freed stays
-- freed; a peer made since the begin has a mark; what has a mark is spared; the roots have one; what is grey has one
-- and was there at the begin; and an edge of the begin leads to a peer with a mark, or begins at one that isn't black
-- and still stands
pub record AreMarksGoing (s : PeerReplay) (mk : Marking)
    (follows : Bool) (marks : List Bool) (greys : List ℕ) : Type 0 where
  pub older : (p : ℕ) → Contains mk.heap.freed p → Contains s.peers.heap.freed p
  pub fresh : (p : ℕ) → IsLive s.peers.heap p → (IsLive mk.heap p → ⊥) → HasMark marks p
  pub sound : (p : ℕ) → HasMark marks p → IsSpared mk p
  pub roots : (p : ℕ) → IsMarkingRoot mk p → IsLive mk.heap p → HasMark marks p
  pub grey : (p : ℕ) → Contains greys p → HasMark marks p
  pub existed : (p : ℕ) → Contains greys p → IsLive mk.heap p
  pub ahead : (p q : ℕ) → MarkingEdge mk p q → HasMark marks q
      ⊎ ((HasMark marks p → Contains greys p) × EdgeNow s follows p q)

-- a marking goes on, in a state as lawful pasts lead to
pub record IsGoingSide (s : PeerReplay) (mk : Marking)
    (follows : Bool) (marks : List Bool) (greys : List ℕ) : Type 0 where
  pub kept : PeerInvariant s
  pub opened : s.marking ≡ Some mk
  pub right : AreMarksGoing s mk follows marks greys

-- what is seen gets a mark, and is grey where it had none; of the others those that are gone leave the list of grey
-- ones
pub record Shades (seen gone : ℕ → Type 0) (marks : List Bool)
    (greys : List ℕ) (after : List Bool) (waits : List ℕ) : Type 0 where
  pub marked : (k : ℕ) → HasMark after k ↔ (HasMark marks k ⊎ seen k)
  pub kept : (k : ℕ) → Contains greys k → (gone k → ⊥) → Contains waits k
  pub anew : (k : ℕ) → HasMark after k → HasMark marks k ⊎ Contains waits k
  pub left : (k : ℕ) → gone k → Contains waits k → ⊥
  pub only : (k : ℕ) → Contains waits k → Contains greys k ⊎ ((HasMark marks k → ⊥) × seen k)

-- none of the grey ones is gone
abbrev pub none : ℕ → Type 0
none k = ⊥

-- the begin makes the roots grey
abbrev pub BeginGreysRoots : Type 0
BeginGreysRoots = (s : PeerReplay) (t : Thread) (mk : Marking) (marks : List Bool) (greys : List ℕ)
    → (begun s None t).state.marking ≡ Some mk
    → ((p : ℕ) → HasMark marks p ↔ (IsLive s.peers.heap p × IsRootNow s p))
    → ((p : ℕ) → Contains greys p ↔ HasMark marks p) → AreMarksGoing (begun s None t).state mk true marks greys

-- a grey peer is made black: what it leads to now is shaded
abbrev pub BlackeningGoesOn : Type 0
BlackeningGoesOn = (s : PeerReplay) (mk : Marking) (follows : Bool) (marks after : List Bool)
    (greys waits : List ℕ) (x black : ℕ) → IsGoingSide s mk follows marks greys → Contains greys x
    → Shades (EdgeNow s follows x) (λ k. k ≡ x) marks greys after waits
    → AreMarksGoing (record s { marking = Some (record mk { brought = mk.brought; blackened = black }) })
    (record mk { brought = mk.brought; blackened = black }) follows after waits

-- a field of a peer in a slot gets another value: what it held is shaded
abbrev pub ShadedWritesGoOn : Type 0
ShadedWritesGoOn = (s : PeerReplay) (mk : Marking) (follows : Bool) (marks after : List Bool)
    (greys waits : List ℕ) (x i : ℕ) (y : Option ℕ) → IsGoingSide s mk follows marks greys → InSlot s.peers.heap x
    → Shades (λ k. slice_get (fields_of s.peers.heap x) i ≡ Some (Some k)) none marks greys after waits
    → AreMarksGoing (record s { peers = record s.peers { heap = with_field s.peers.heap x i y } })
    mk follows after waits

-- a peer is brought back: it is shaded
abbrev pub BringingBackGoesOn : Type 0
BringingBackGoesOn = (s : PeerReplay) (mk : Marking) (follows : Bool) (marks after : List Bool)
    (greys waits : List ℕ) (x : ℕ) → IsGoingSide s mk follows marks greys → IsLive s.peers.heap x
    → Shades (λ k. k ≡ x) none marks greys after waits
    → AreMarksGoing (record s {
      marking = Some (record mk { brought = mk.brought ++ x ∷ []; blackened = mk.blackened });
    })
    (record mk { brought = mk.brought ++ x ∷ []; blackened = mk.blackened }) follows after waits

-- a peer is made, and is black
abbrev pub NewPeersGoOn : Type 0
NewPeersGoOn = (s : PeerReplay) (mk : Marking) (follows : Bool) (marks after : List Bool)
    (greys : List ℕ) (sort : Sort) (n : ℕ) → IsGoingSide s mk follows marks greys
    → ((p : ℕ) → p ≢ next_number s.peers.heap → (HasMark after p ↔ HasMark marks p))
    → HasMark after (next_number s.peers.heap)
    → AreMarksGoing (record s { peers = with_peer s.peers sort n }) mk follows after greys

-- references come to stand where none stood; the open marking doesn't follow them
abbrev pub StandingGoesOn : Type 0
StandingGoesOn = (s : PeerReplay) (mk : Marking) (follows : Bool) (marks : List Bool)
    (greys : List ℕ) (cycle snap : ℕ) (refs : List (End × End)) → s.refs ≡ []
    → AreMarksGoing s mk follows marks greys → AreMarksGoing (mirrored s cycle (Some snap) refs) mk false marks greys

-- the references go: their unfreed targets, each of which is spared, are shaded
abbrev pub ClearingGoesOn : Type 0
ClearingGoesOn = (s : PeerReplay) (mk : Marking) (follows : Bool) (marks after : List Bool) (greys waits : List ℕ)
    → ((p q : ℕ) → HasReference s.peers.heap s.refs p q → IsSpared mk q)
    → AreMarksGoing s mk follows marks greys
    → Shades (λ q. (p : ℕ) × HasReference s.peers.heap s.refs p q) none marks greys after waits
    → AreMarksGoing (record s { refs = []; mirror = None }) mk follows after waits

-- fields, freed peers and mirrored references stay
abbrev pub OtherEventsGoOn : Type 0
OtherEventsGoOn = (s t : PeerReplay) (mk : Marking) (follows : Bool) (marks : List Bool) (greys : List ℕ)
    → t.peers.heap.fields ≡ s.peers.heap.fields → t.peers.heap.freed ≡ s.peers.heap.freed → t.refs ≡ s.refs
    → AreMarksGoing s mk follows marks greys → AreMarksGoing t mk follows marks greys

-- once none is grey, all that the marking reaches has a mark
abbrev pub NoneGreyIsAll : Type 0
NoneGreyIsAll = (s : PeerReplay) (mk : Marking) (follows : Bool) (marks : List Bool)
    → AreMarksGoing s mk follows marks [] → (p : ℕ) → IsMarked mk p → HasMark marks p

-- then the peers without a mark, rising, are those that the definition's sweep frees
abbrev pub SweepIsExactThen : Type 0
SweepIsExactThen = (s : PeerReplay) (mk : Marking) (follows : Bool) (marks : List Bool) (freed : List ℕ)
    → AreMarksGoing s mk follows marks [] → Rises freed
    → ((p : ℕ) → Contains freed p ↔ IsWithoutMark s marks p) → IsSweep s mk freed

-- what a peer with a mark leads to now has a mark then
abbrev pub MarksAreShutThen : Type 0
MarksAreShutThen = (s : PeerReplay) (mk : Marking) (follows : Bool) (marks : List Bool)
    → IsGoingSide s mk follows marks [] → IsClosed (EdgeNow s follows) marks

-- and they may be freed
abbrev pub SweepIsSafeThen : Type 0
SweepIsSafeThen = (s : PeerReplay) (mk : Marking) (follows : Bool) (marks : List Bool) (freed : List ℕ)
    → IsGoingSide s mk follows marks [] → Rises freed
    → ((p : ℕ) → Contains freed p ↔ IsWithoutMark s marks p) → CanFree s.peers.heap freed

-- so many members of the list are such
abbrev pub Counted : (ℕ → Type 0) → List ℕ → ℕ → Type 0
Counted Q [] n = n ≡ 0
Counted Q (x ∷ xs) n = (Q x × (m : ℕ) × (n ≡ suc m) × Counted Q xs m) ⊎ ((Q x → ⊥) × Counted Q xs n)

-- a black peer
abbrev pub IsBlack : List Bool → List ℕ → ℕ → Type 0
IsBlack marks greys p = HasMark marks p × (Contains greys p → ⊥)

-- of the peers that existed at the begin and that the marking reaches so far, so many are black
pub record AreBlack (mk : Marking) (marks : List Bool) (greys closure : List ℕ) (count : ℕ) : Type 0 where
  pub closed : IsClosure mk closure
  pub counted : Counted (IsBlack marks greys) closure count

-- none is grey exactly where all of them are black
abbrev pub DoneIsAllBlack : Type 0
DoneIsAllBlack = (s : PeerReplay) (mk : Marking) (follows : Bool) (marks : List Bool)
    (greys closure : List ℕ) (count : ℕ) → AreMarksGoing s mk follows marks greys
    → AreBlack mk marks greys closure count → (greys ≡ []) ↔ (count ≡ length closure)

-- to make a grey one black makes one more of them black
abbrev pub BlackeningCounts : Type 0
BlackeningCounts = (s : PeerReplay) (mk : Marking) (follows : Bool) (marks after : List Bool)
    (greys waits closure : List ℕ) (x count black : ℕ) → IsGoingSide s mk follows marks greys → Contains greys x
    → Shades (EdgeNow s follows x) (λ k. k ≡ x) marks greys after waits → AreBlack mk marks greys closure count
    → AreBlack (record mk { brought = mk.brought; blackened = black }) after waits closure (suc count)

-- to shade makes none black
abbrev pub ShadingCounts : Type 0
ShadingCounts = (seen : List ℕ) (mk : Marking) (marks after : List Bool) (greys waits closure : List ℕ) (count : ℕ)
    → Shades (Contains seen) none marks greys after waits
    → AreBlack mk marks greys closure count → AreBlack mk after waits closure count

-- to bring a peer back may add to them, but none that is black
abbrev pub BringingBackCounts : Type 0
BringingBackCounts = (s : PeerReplay) (mk : Marking) (follows : Bool) (marks after : List Bool)
    (greys waits closure more : List ℕ) (x count : ℕ) → IsGoingSide s mk follows marks greys
    → Shades (λ k. k ≡ x) none marks greys after waits
    → IsClosure (record mk { brought = mk.brought ++ x ∷ []; blackened = mk.blackened }) more
    → AreBlack mk marks greys closure count
    → AreBlack (record mk { brought = mk.brought ++ x ∷ []; blackened = mk.blackened }) after waits more count
