-- Pins that are given as data to a snapshot and a `take`: the side itself keeps none. (In the order they are words that
-- their readers fill.)
use Rattle.std.specs.Prelude.{ℕ, List, ◌∷◌, map, slice_set, Option, Some, None}
use Rattle.joint_machine.specs.declared.names.MNum.{MNum}
use Rattle.joint_machine.specs.declared.names.Thread.{Thread}
use Rattle.joint_machine.specs.declared.events.Reply.{Reply}
use Rattle.joint_machine.specs.declared.events.Reply.TheVariants as says
use Rattle.joint_machine.specs.Heaps.{slot, with_var}
use Rattle.joint_machine.specs.ManagedReplay.{ManagedReplay}
use Rattle.joint_machine.specs.Sides.{object_or_none}
use Rattle.joint_machine.specs.PinsTold.{no_pins}
use Rattle.joint_machine.specs.Run.{thread_number}
use Rattle.joint_machine.specs.Told.{Told, kept_pins, nothing}
use Rattle.managed_heap.specs.Rows.{number_or_none}

-- the pins of the threads with the numbers 1 to 8, from a list in that order; the pin with number 0 is nobody's
abbrev pub pins_given : List (Option MNum) → List (Option ℕ)
pins_given at = None ∷ map number_or_none at

-- the pin of one thread, with all others empty
abbrev pub pin_given : ℕ → Option MNum → List (Option ℕ)
pin_given t pin = slice_set no_pins t (number_or_none pin)

-- what is told beside a thread's `take`: its pin
abbrev pub take_told : Thread → Option MNum → Told
take_told t pin = kept_pins (pin_given (thread_number t) pin) nothing

-- the reply to a `take`, by what the pin holds
abbrev pub pin_reply : Option MNum → Reply
pin_reply None = says.Empty
pin_reply (Some m) = says.M m

-- a variable names what the pin holds
abbrev pub with_taken : ManagedReplay → ℕ → Option MNum → ManagedReplay
with_taken s v None = s
with_taken s v (Some m) = record s { managed = record s.managed { heap = with_var s.managed.heap v (Some m.0) } }

-- the object to which a `weak` sets a cell by the cell's target: none, if that is set
abbrev pub unset_target : Option ℕ → Option ℕ → Option MNum
unset_target None o = object_or_none o
unset_target (Some y) o = None

-- the object to which a `weak` of cell k sets it, by the variable's place
abbrev pub weak_target : ManagedReplay → ℕ → ℕ → Option MNum
weak_target s k v = unset_target (slot s.managed.cells k) (slot s.managed.heap.vars v)
