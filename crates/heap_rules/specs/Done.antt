-- What an operation of a heap answers, and the reply that it stands for. (This project's own.)
use Rattle.std.specs.Prelude.{◌≡◌, ℕ}
use Rattle.joint_machine.specs.declared.events.Reply.{Reply}
use Rattle.joint_machine.specs.declared.events.Reply.TheVariants as says
use Rattle.joint_machine.specs.Heaps.{Heap, Answered, answer}
use Rattle.heap_rules.specs.declared.done.Done.{Done}
use Rattle.heap_rules.specs.declared.done.Done.TheVariants as done

-- the reply, where `name` is how a reply names an object
abbrev pub say : (ℕ → Reply) → Done → Reply
say name done.Ok = says.Ok
say name done.Empty = says.Empty
say name done.Range = says.Range
say name done.Null = says.Null
say name (done.Object x) = name x

-- the operation's reply and state are these, however replies name objects
abbrev pub Did : ((ℕ → Reply) → Answered Heap) → Done → Heap → Type 0
Did operation d new = (name : ℕ → Reply) → operation name ≡ answer (say name d) new
