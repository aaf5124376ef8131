-- What it means to replay an entry of a history: whether it is a step of the joint machine from a state, with what is
-- told beside it read from the history's own lists. (The joint machine is the one of the joint model.)
use Rattle.std.specs.Prelude.{◌≡◌, ℕ, ◌<◌, Bool, false, List, [], ◌++◌, map, Some, slice_get}
use Rattle.joint_machine.specs.declared.events.Op.{Op}
use Rattle.joint_machine.specs.declared.events.Op.TheVariants as op
use Rattle.joint_machine.specs.declared.events.Reply.{Reply}
use Rattle.joint_machine.specs.declared.events.Reply.TheVariants as says
use Rattle.joint_machine.specs.declared.events.Entry.{Entry}
use Rattle.joint_machine.specs.Heaps.{Answered}
use Rattle.joint_machine.specs.Histories.{Finished, managed_numbers, peer_numbers, stretch}
use Rattle.joint_machine.specs.Joint.{Joint}
use Rattle.joint_machine.specs.Lines.{IsVar}
use Rattle.joint_machine.specs.Replaying.{LawfulStep}
use Rattle.joint_machine.specs.Peers.{Peers, issued_since}
use Rattle.joint_machine.specs.Run.{JointStep}
use Rattle.joint_machine.specs.Told.{Told, snap_of, sweep_of, resolution_of}
use Rattle.joint_replay.specs.declared.state.Verdict.{Verdict}
use Rattle.joint_replay.specs.declared.state.Verdict.TheVariants.{Lawful, Unlawful}

-- the managed objects that a reply's span names in the history's list of freed ones
abbrev pub named_objects : Finished → Reply → List ℕ
named_objects h (says.Snapped n s) = managed_numbers (stretch h.freed_managed s)
named_objects h (says.Freed s) = managed_numbers (stretch h.freed_managed s)
named_objects h _ = []

-- the peers that a reply's span names in the history's list of freed ones
abbrev pub named_peers : Finished → Reply → List ℕ
named_peers h (says.Swept j s) = peer_numbers (stretch h.freed_peers s)
named_peers h _ = []

-- what is told beside an entry with that reply: its freed rows are those that the reply names
abbrev pub IsTold : Finished → Reply → Told → Type 0
IsTold h r (snap_of freed candidates dead) = freed ≡ named_objects h r
IsTold h r (sweep_of freed) = freed ≡ named_peers h r
IsTold h r (resolution_of alive freed) = freed ≡ named_objects h r
IsTold h r _ = Unit {0}

-- the entry of a history is a step of the joint machine from one state to the next, a read as all others are
pub record IsJointStepOf (h : Finished) (e : Entry) (j next : Joint) : Type 0 where
  pub told : Told
  pub named : IsTold h e.made.reply told
  pub step : JointStep j record { entry = e; told = told } next

-- the entry of a history is a step of the joint machine: a read that is pending, or finds its cell unset, is none
pub record IsStepOf (h : Finished) (e : Entry) (j next : Joint) : Type 0 where
  pub told : Told
  pub named : IsTold h e.made.reply told
  pub step : LawfulStep j record { entry = e; told = told } next

-- a verdict on steps of some kind: lawful where there is one, and the state is then that of one; unlawful where there
-- is none, and the state stays
abbrev pub Decides : {S : Type 0} → (S → Type 0) → Verdict → S → S → Type 0
Decides step Lawful old new = step new
Decides {S} step Unlawful old new = ((next : S) → step next → ⊥) × (new ≡ old)

-- the verdict on an entry
abbrev pub Judges : Finished → Entry → Verdict → Joint → Joint → Type 0
Judges h e v old new = Decides (IsStepOf h e old) v old new

-- and with reads as all others are
abbrev pub JudgesStep : Finished → Entry → Verdict → Joint → Joint → Type 0
JudgesStep h e v old new = Decides (IsJointStepOf h e old) v old new

-- the reply is that of the answer, and the state is the one after it
pub record Gives {S : Type 0} (a : Answered S) (reply : Reply) (next : S) : Type 0 where
  pub replies : reply ≡ a.reply
  pub state : next ≡ a.state

-- an event of a managed thread on the peers and handles
abbrev pub IsHandleEvent : Op → Type 0
IsHandleEvent (op.Make s n) = Unit {0}
IsHandleEvent (op.Land h x) = x.0 < 16
IsHandleEvent (op.Grip x) = x.0 < 16
IsHandleEvent (op.Release h) = Unit {0}
IsHandleEvent _ = ⊥

-- an event of a managed thread on the objects
abbrev pub IsObjectEvent : Op → Type 0
IsObjectEvent (op.Adopt v k n p h) = IsVar v
IsObjectEvent (op.Lend v x) = IsVar v
IsObjectEvent (op.Meet v s n p h) = IsVar v
IsObjectEvent (op.Give v) = IsVar v
IsObjectEvent _ = ⊥

-- the entry of a history with that number
abbrev pub IsEntry : Finished → ℕ → Entry → Type 0
IsEntry h i e = slice_get h.entries i ≡ Some e

-- the flags of the removed handles go on with one for each handle that was issued, which isn't removed
abbrev pub Flags : Peers → Peers → List Bool → List Bool → Type 0
Flags old new flags next = next ≡ flags ++ map (λ i. false) (issued_since old new)
