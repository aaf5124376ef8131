-- What a pin's word says of the object that it names, to who knows the managed list: it was held from a number on, so
-- it is unfreed and in no open cycle's dead part, and pins that hold such objects stand. (Textbook: an object that a
-- root holds when a collector starts isn't freed by it.)
use Rattle.std.specs.Prelude.{◌≡◌, ℕ, ◌<◌, ◌≤◌, nat_lt, if◌then◌else◌, List, [], ◌∷◌, Option, Some, None}
use Rattle.joint_machine.specs.declared.names.Cycle.{Cycle}
use Rattle.joint_machine.specs.declared.events.Op.TheVariants as op
use Rattle.joint_machine.specs.declared.events.Reply.{Reply}
use Rattle.joint_machine.specs.declared.events.Reply.TheVariants as says
use Rattle.joint_machine.specs.Heaps.{slot, is_freed}
use Rattle.joint_machine.specs.Managed.{Managed, OpenCycle, read_cell}
use Rattle.joint_machine.specs.Readers.{FreesObject}
use Rattle.joint_machine.specs.Told.{Noted}
use Rattle.joint_machine.specs.PinsTold.{bare_told, pins_told}
use Rattle.known_laws.specs.Known.{PinsStand}
use Rattle.known_laws.specs.Pasts.{Lawful, end_of}
use Rattle.known_laws.specs.PastEntries.{InPast}

-- the part of a past whose numbers are below n
abbrev pub those_below : ℕ → List Noted → List Noted
those_below n [] = []
those_below n (x ∷ h) = if nat_lt x.entry.number n then x ∷ h else those_below n h

-- a thread's pin holds the object from a number on: the object is a cell's target; no entry below the number frees it,
-- and no cycle is open there; and each later snap was told with the object in that thread's pin
pub record IsHeld (h : List Noted) (r m : ℕ) : Type 0 where
  pub cell : ℕ
  pub aims : slot (end_of h).managed.managed.cells cell ≡ Some m
  pub from : ℕ
  pub alive : (x : Noted) → InPast h x → x.entry.number < from → FreesObject (bare_told x.told) m → ⊥
  pub closed : (end_of (those_below from h)).managed.managed.cycle ≡ None
  pub kept : (x : Noted) → InPast h x → from ≤ x.entry.number → (k : Cycle)
      → x.entry.made.op ≡ op.Snap k → slot (pins_told x.told) r ≡ Some m

-- pins in which each object has been held stand
abbrev pub HeldPinsStand : Type 0
HeldPinsStand = (h : List Noted) (pins : List (Option ℕ)) → Lawful h
    → ((r m : ℕ) → slot pins r ≡ Some m → IsHeld h r m) → PinsStand (end_of h).managed.managed pins

-- what a reader answers that finds so of its own pin, of the gate and of the cell's word: a filled pin alone decides,
-- then a held gate, and then the word, 0 for unset, 1 for gone and else the object's number and 1
pub data Word : Type 0 where
  unset : Word
  gone : Word
  object : ℕ → Word

abbrev pub answers_by : Option ℕ → Option ℕ → Word → Reply
answers_by (Some m) held w = says.Pinned record { 0 = m }
answers_by None (Some k) w = says.Pending record { 0 = k }
answers_by None None unset = says.Unset
answers_by None None gone = says.Gone
answers_by None None (object m) = says.M record { 0 = m }

-- what the managed objects say of the gate and of a cell's word
abbrev pub open_number : Option OpenCycle → Option ℕ
open_number None = None
open_number (Some c) = Some c.number

abbrev pub word_by : Managed → Option ℕ → Word
word_by s None = unset
word_by s (Some m) = if is_freed s.heap m then gone else object m

-- so a reader that finds of each what the managed objects say answers as the one machine does
abbrev pub ReadsAreExact : Type 0
ReadsAreExact = (s : Managed) (t k : ℕ)
    → answers_by (slot s.pins t) (open_number s.cycle) (word_by s (slot s.cells k)) ≡ (read_cell s t k).reply
