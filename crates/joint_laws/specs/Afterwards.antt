-- What holds in a history once something was freed or cleared: reads of it answer gone, and no mirrored reference
-- stands.
-- Believed: the clauses of the program's top call rest on all that stands here.
use Rattle.std.specs.Prelude.{◌≡◌, ℕ, ◌<◌, ◌⊎◌, List, take, Contains, Some}
use Rattle.joint_machine.specs.declared.names.Thread.{Thread}
use Rattle.joint_machine.specs.declared.names.Var.{Var}
use Rattle.joint_machine.specs.declared.names.GName.{GName}
use Rattle.joint_machine.specs.declared.events.Reply.{Reply}
use Rattle.joint_machine.specs.Heaps.{slot}
use Rattle.joint_machine.specs.Linked.{Linkage, opening_linkage}
use Rattle.joint_machine.specs.Managed.{Managed, OpenCycle}
use Rattle.joint_machine.specs.PeerReplay.{PeerReplay}
use Rattle.joint_machine.specs.Peers.{peer_of}
use Rattle.joint_machine.specs.Places.{At}
use Rattle.joint_machine.specs.Readers.{HasEventAt, ReadsCell, replayed_reading}
use Rattle.joint_machine.specs.Run.{thread_number}
use Rattle.joint_machine.specs.Told.{Noted, sweep_of, resolution_of, Answer}
use Rattle.joint_machine.specs.declared.lines.Act.TheVariants as act
use Rattle.joint_machine.specs.declared.events.Op.TheVariants as op
use Rattle.joint_machine.specs.declared.events.Reply.TheVariants as says

-- the entry in that place resolves cycle k and frees the object
abbrev pub ResolveFrees : List Noted → ℕ → ℕ → ℕ → Type 0
ResolveFrees noted i k m = At noted i (λ n. (n.entry.made.op ≡ op.Resolve record { 0 = k })
    × (alive : List Answer) × (freed : List ℕ) × (n.told ≡ resolution_of alive freed) × Contains freed m)

-- the entry in that place is a sweep that frees the peer
abbrev pub SweepFrees : List Noted → ℕ → ℕ → Type 0
SweepFrees noted i p = At noted i (λ n. (n.entry.made.op ≡ op.Sweep)
    × (freed : List ℕ) × (n.told ≡ sweep_of freed) × Contains freed p)

-- the entry reads a cell whose target is the object
pub record ReadsObject (s : Managed) (n : Noted) (m : ℕ) : Type 0 where
  pub cell : ℕ
  pub reads : ReadsCell n.entry.made.op cell
  pub target : slot s.cells cell ≡ Some m

-- the entry reads a weak global name whose handle is on the peer
pub record ReadsPeer (s : PeerReplay) (n : Noted) (p : ℕ) : Type 0 where
  pub var : Var
  pub name : GName
  pub reads : n.entry.made.op ≡ op.Line (act.WRead var name)
  pub handle : ℕ
  pub named : slot s.peers.names name.0 ≡ Some handle
  pub leads : peer_of s.peers.issued handle ≡ Some p

-- the reply is gone, unless it names what the thread's pin holds, or a later cycle than k that is open
abbrev pub IsGoneAfter : Managed → Thread → ℕ → Reply → Type 0
IsGoneAfter s t k reply = (reply ≡ says.Gone)
    ⊎ ((m : ℕ) × (slot s.pins (thread_number t) ≡ Some m) × (reply ≡ says.Pinned record { 0 = m }))
    ⊎ ((c : OpenCycle) × (s.cycle ≡ Some c) × (k < c.number) × (reply ≡ says.Pending record { 0 = c.number }))

-- no entry between two places mirrors a cycle
abbrev pub NoMirrorBetween : List Noted → ℕ → ℕ → Type 0
NoMirrorBetween noted i j = (x k : ℕ) → i < x → x < j → HasEventAt noted x (op.Mirror record { 0 = k }) → ⊥

-- the same of histories with lock-free reads: their state after so many entries
abbrev pub reading_at : List Noted → ℕ → Linkage
reading_at noted i = replayed_reading opening_linkage (take i noted)
