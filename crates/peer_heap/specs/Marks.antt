-- What an event does to the marks of the peer rows, while a marking is open, and to where the list of grey peers
-- begins. (Textbook: the deletion barrier of a snapshot at the beginning; a new object is black, and what is read from
-- a weak reference is shaded.)
use Rattle.std.specs.Prelude.{◌≡◌, ◌≢◌, ℕ, ◌↔◌, ◌++◌, ◌∷◌, [], Bool, true, List, Option, Some}
use Rattle.joint_machine.specs.declared.names.Thread.{Thread}
use Rattle.joint_machine.specs.declared.lines.Act.TheVariants as act
use Rattle.joint_machine.specs.declared.events.Op.{Op}
use Rattle.joint_machine.specs.declared.events.Op.TheVariants as op
use Rattle.joint_machine.specs.declared.events.Reply.{Reply}
use Rattle.joint_machine.specs.declared.events.Reply.TheVariants as says
use Rattle.joint_machine.specs.Heaps.{place, place_or_none}
use Rattle.joint_machine.specs.PeerReplay.{PeerReplay, Marking, peer_answer}
use Rattle.joint_machine.specs.Run.{thread_number}
use Rattle.joint_machine.specs.Told.{nothing}
use Rattle.joint_laws.specs.PeerInvariants.{PeerInvariant}
use Rattle.marking_laws.specs.Slices.{AreMarksGoing}
use Rattle.reachability.specs.Marks.{HasMark}
use Rattle.row_heap.specs.Marks.{overwritten}
use Rattle.row_heap.specs.Rows.{HeapRows}
use Rattle.row_marking.specs.Traces.{Chained, Greyed}
use Rattle.peer_heap.specs.Steps.{IsPeerStep}

-- all but the heap is as before
abbrev pub AreMarksSame : HeapRows → HeapRows → Type 0
AreMarksSame old new = new ≡ record old { heap = new.heap }

-- one object has a mark now; the marks of the others are as before, and so is the list of grey objects
pub record IsMarkedToo (old new : HeapRows) (x : ℕ) : Type 0 where
  pub refs : new.refs ≡ old.refs
  pub follows : new.follows ≡ old.follows
  pub room : new.room ≡ old.room
  pub temps : new.temps ≡ old.temps
  pub marked : HasMark new.marks x
  pub others : (k : ℕ) → k ≢ x → (HasMark new.marks k ↔ HasMark old.marks k)
  pub chained : (head : ℕ) (greys : List ℕ)
      → Chained old.marks old.links head greys → Chained new.marks new.links head greys

-- these objects are shaded, if a marking is open: each has a mark, and is grey where it had none
pub record IsShaded (is_open : Bool) (these : ℕ → Type 0)
    (old : HeapRows) (before : ℕ) (new : HeapRows) (after : ℕ) : Type 0 where
  pub refs : new.refs ≡ old.refs
  pub follows : new.follows ≡ old.follows
  pub room : new.room ≡ old.room
  pub temps : new.temps ≡ old.temps
  pub shaded : Greyed (λ k. (is_open ≡ true) × these k) old.marks old.links before new.marks new.links after

-- a new object has a mark
abbrev pub MarksNew : HeapRows → Reply → HeapRows → Type 0
MarksNew old (says.P p) new = IsMarkedToo old new p.0
MarksNew old (says.Made p h) new = IsMarkedToo old new p.0
MarksNew old r new = AreMarksSame old new

-- what a name or a handle gave is brought back: it is shaded
abbrev pub MarksBrought : Bool → HeapRows → ℕ → Reply → HeapRows → ℕ → Type 0
MarksBrought is_open old before (says.P p) new after = IsShaded is_open (λ k. k ≡ p.0) old before new after
MarksBrought is_open old before r new after = AreMarksSame old new × (after ≡ before)

-- what a write takes out of its field is shaded
abbrev pub MarksWritten : Bool → HeapRows → ℕ → Option ℕ → HeapRows → ℕ → Type 0
MarksWritten is_open old before over new after = IsShaded is_open (λ k. over ≡ Some k) old before new after

-- what an event of a thread does to the marks
abbrev pub MarksAfter : Bool → Thread → HeapRows → ℕ → Op → Reply → HeapRows → ℕ → Type 0
MarksAfter is_open t old before (op.Line (act.NewPeer v n)) r new after = MarksNew old r new × (after ≡ before)
MarksAfter is_open t old before (op.Make sort n) r new after = MarksNew old r new × (after ≡ before)
MarksAfter is_open t old before (op.Line (act.Set v i w)) r new after = MarksWritten is_open old before
    (overwritten old.heap (place (thread_number t) v.0) i (place_or_none (thread_number t) w)) new after
MarksAfter is_open t old before (op.Line (act.WRead v g)) r new after = MarksBrought is_open old before r new after
MarksAfter is_open t old before (op.Land h x) r new after = MarksBrought is_open old before r new after
MarksAfter is_open t old before o r new after = AreMarksSame old new × (after ≡ before)

-- the open marking after a reply that may name a peer: the peer is brought back
abbrev pub mark_by : Marking → Reply → Marking
mark_by mk (says.P p) = record mk { brought = mk.brought ++ p.0 ∷ [] }
mark_by mk r = mk

-- the open marking after an event
abbrev pub mark_after : Marking → Op → Reply → Marking
mark_after mk (op.Line (act.WRead v g)) r = mark_by mk r
mark_after mk (op.Land h x) r = mark_by mk r
mark_after mk o r = mk

-- the marking goes on, as the rows have its marks, and the list of its grey peers begins there
pub record IsGoing (s : PeerReplay) (mk : Marking) (v : HeapRows) (head : ℕ) : Type 0 where
  pub greys : List ℕ
  pub chained : Chained v.marks v.links head greys
  pub right : AreMarksGoing s mk v.follows v.marks greys

-- the marking goes on over each event of a step, where the rows did to the marks what the event asks for
abbrev pub StepsGoOn : Type 0
StepsGoOn = (s : PeerReplay) (mk : Marking) (old new : HeapRows) (before after : ℕ) (t : Thread) (o : Op)
    (cites : Option ℕ) → IsPeerStep t o → s.peers.heap ≡ old.heap
    → PeerInvariant s → s.marking ≡ Some mk → IsGoing s mk old before
    → MarksAfter true t old before o (peer_answer s t o cites nothing).reply new after
    → IsGoing (peer_answer s t o cites nothing).state
    (mark_after mk o (peer_answer s t o cites nothing).reply) new after
