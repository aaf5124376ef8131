-- The laws of the marks of the peer rows, one for each kind of event. (This project's own.)
use Rattle.std.specs.Prelude.{◌≡◌, ◌≢◌, ℕ, ◌↔◌, ◌⊎◌, ◌++◌, ◌∷◌, [], Bool, true, false, List, Contains, Option, Some}
use Rattle.std.specs.Prelude.{None}
use Rattle.joint_machine.specs.declared.names.Sort.{Sort}
use Rattle.joint_machine.specs.declared.names.Thread.{Thread}
use Rattle.joint_machine.specs.Components.{Rises, End}
use Rattle.joint_machine.specs.Heaps.{InSlot, next_number, with_field}
use Rattle.joint_machine.specs.Peers.{with_peer}
use Rattle.joint_machine.specs.PeerReplay.{PeerReplay, Marking, IsSweep, HasReference, begun, mirrored}
use Rattle.joint_machine.specs.Walks.{Reached}
use Rattle.joint_laws.specs.PeerInvariants.{IsSpared}
use Rattle.heap_rules.specs.Tidy.{CanFree}
use Rattle.reachability.specs.Marks.{HasMark, IsClosed}
use Rattle.marking_laws.specs.Marks.{AreMarksExact, EdgeNow, IsMarkedSide, IsRootNow, IsWithoutMark}

-- the begin of a marking, with marks just where its roots reach
abbrev pub BeginMakesMarksExact : Type 0
BeginMakesMarksExact = (s : PeerReplay) (t : Thread) (mk : Marking) (marks : List Bool)
    → (begun s None t).state.marking ≡ Some mk
    → ((p : ℕ) → HasMark marks p ↔ Reached (IsRootNow s) (EdgeNow s true) p)
    → AreMarksExact (begun s None t).state mk true marks

-- a field of a peer in a slot gets another value
abbrev pub WritesKeepMarks : Type 0
WritesKeepMarks = (s : PeerReplay) (mk : Marking) (follows : Bool) (marks : List Bool) (p i : ℕ) (y : Option ℕ)
    → IsMarkedSide s mk follows marks → InSlot s.peers.heap p
    → AreMarksExact (record s { peers = record s.peers { heap = with_field s.peers.heap p i y } }) mk follows marks

-- fields, freed peers and mirrored references stay
abbrev pub OtherEventsKeepMarks : Type 0
OtherEventsKeepMarks = (s t : PeerReplay) (mk : Marking) (follows : Bool) (marks : List Bool)
    → t.peers.heap.fields ≡ s.peers.heap.fields → t.peers.heap.freed ≡ s.peers.heap.freed → t.refs ≡ s.refs
    → AreMarksExact s mk follows marks → AreMarksExact t mk follows marks

-- a peer is made, and has a mark; the other marks stay
abbrev pub NewPeersKeepMarks : Type 0
NewPeersKeepMarks = (s : PeerReplay) (mk : Marking) (follows : Bool) (marks after : List Bool) (sort : Sort) (n : ℕ)
    → IsMarkedSide s mk follows marks
    → ((p : ℕ) → p ≢ next_number s.peers.heap → (HasMark after p ↔ HasMark marks p))
    → HasMark after (next_number s.peers.heap)
    → AreMarksExact (record s { peers = with_peer s.peers sort n }) mk follows after

-- a peer is brought back: what it reaches over the edges of now gets a mark
abbrev pub BringingBackKeepsMarks : Type 0
BringingBackKeepsMarks = (s : PeerReplay) (mk : Marking) (follows : Bool) (marks after : List Bool) (x : ℕ)
    → IsMarkedSide s mk follows marks
    → ((p : ℕ) → HasMark after p ↔ (HasMark marks p ⊎ Reached (Contains (x ∷ [])) (EdgeNow s follows) p))
    → AreMarksExact (record s { marking = Some (record mk { brought = mk.brought ++ x ∷ [] }) })
    (record mk { brought = mk.brought ++ x ∷ [] }) follows after

-- the references of a cycle come to stand where none stood; the open marking doesn't follow them
abbrev pub StandingKeepsMarks : Type 0
StandingKeepsMarks = (s : PeerReplay) (mk : Marking) (follows : Bool)
    (marks : List Bool) (cycle snap : ℕ) (refs : List (End × End)) → s.refs ≡ []
    → AreMarksExact s mk follows marks → AreMarksExact (mirrored s cycle (Some snap) refs) mk false marks

-- the references go, each of whose unfreed targets is spared
abbrev pub ClearingKeepsMarks : Type 0
ClearingKeepsMarks = (s : PeerReplay) (mk : Marking) (follows : Bool) (marks : List Bool)
    → ((p q : ℕ) → HasReference s.peers.heap s.refs p q → IsSpared mk q)
    → AreMarksExact s mk follows marks → AreMarksExact (record s { refs = []; mirror = None }) mk follows marks

-- what a peer with a mark leads to now has a mark
abbrev pub MarksAreShut : Type 0
MarksAreShut = (s : PeerReplay) (mk : Marking) (follows : Bool) (marks : List Bool)
    → IsMarkedSide s mk follows marks → IsClosed (EdgeNow s follows) marks

-- the peers without a mark, rising, are those that the definition's sweep frees
abbrev pub SweepIsExact : Type 0
SweepIsExact = (s : PeerReplay) (mk : Marking) (follows : Bool) (marks : List Bool) (freed : List ℕ)
    → AreMarksExact s mk follows marks → Rises freed
    → ((p : ℕ) → Contains freed p ↔ IsWithoutMark s marks p) → IsSweep s mk freed

-- and they may be freed
abbrev pub SweepIsSafe : Type 0
SweepIsSafe = (s : PeerReplay) (mk : Marking) (follows : Bool) (marks : List Bool) (freed : List ℕ)
    → IsMarkedSide s mk follows marks → Rises freed
    → ((p : ℕ) → Contains freed p ↔ IsWithoutMark s marks p) → CanFree s.peers.heap freed
