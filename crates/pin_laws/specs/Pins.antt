-- What a read gave to a thread stays in the thread's pin, unfreed, up to the thread's next `take`. (Textbook: what a root
-- holds when a collector starts isn't freed by it. A local reference of the Xamarin.Android documentation does the same.)
-- Believed: the clauses of the program's top call rest on all that stands here.
use Rattle.std.specs.Prelude.{◌≡◌, ℕ, ◌<◌, List, Some}
use Rattle.joint_machine.specs.declared.names.Thread.TheVariants.{M}
use Rattle.joint_machine.specs.declared.names.Var.{Var}
use Rattle.joint_machine.specs.declared.lines.Act.TheVariants as act
use Rattle.joint_machine.specs.declared.events.Op.TheVariants as op
use Rattle.joint_machine.specs.declared.events.Reply.TheVariants as says
use Rattle.joint_machine.specs.Heaps.{IsLive, slot}
use Rattle.joint_machine.specs.Places.{At}
use Rattle.joint_machine.specs.Readers.{ReadsCell}
use Rattle.joint_machine.specs.Told.{Noted}
use Rattle.joint_laws.specs.Afterwards.{reading_at}

-- the entry with number i is a read that gave the object to managed thread t
abbrev pub GivesAt : List Noted → ℕ → ℕ → ℕ → Type 0
GivesAt noted i t m = At noted i (λ n. (n.entry.made.caller ≡ M t)
    × ((cell : ℕ) × ReadsCell n.entry.made.op cell) × (n.entry.made.reply ≡ says.M record { 0 = m }))

-- no entry between two places is a `take` of managed thread t
abbrev pub NoTakeBetween : List Noted → ℕ → ℕ → ℕ → Type 0
NoTakeBetween noted t i j = (x : ℕ) (v : Var) → i < x → x < j
    → At noted x (λ n. (n.entry.made.caller ≡ M t) × (n.entry.made.op ≡ op.Line (act.Take v))) → ⊥

-- before the entry with number j the thread's pin holds the object, which is unfreed
abbrev pub IsPinnedAt : List Noted → ℕ → ℕ → ℕ → Type 0
IsPinnedAt noted j t m = (slot (reading_at noted j).managed.managed.pins t ≡ Some m) × IsLive (reading_at noted j).managed.managed.heap m

-- so it is from each read that gave an object up to its thread's next `take`
abbrev pub PinsHold : List Noted → Type 0
PinsHold noted = (i j t m : ℕ) → GivesAt noted i t m → i < j → NoTakeBetween noted t i j → IsPinnedAt noted j t m
