-- Which reply is meant where two have one text.
-- Believed: the clauses of the program's top call rest on all that stands here.
use Rattle.std.specs.Prelude.{◌≡◌, ℕ}
use Rattle.joint_machine.specs.declared.names.Span.{Span}
use Rattle.joint_machine.specs.declared.events.Op.{Op}
use Rattle.joint_machine.specs.declared.events.Reply.{Reply}
use Rattle.joint_machine.specs.declared.lines.Act.TheVariants as act
use Rattle.joint_machine.specs.declared.events.Op.TheVariants as op
use Rattle.joint_machine.specs.declared.events.Reply.TheVariants as reply

-- a span isn't of so many
abbrev pub IsNot : ℕ → Span → Type 0
IsNot n s = s.count ≡ n → ⊥

-- Which reply is meant where two have one text: that of the event, and else the first in the order of replies. `m4` is
-- an object, and of `finalise` a list of one; `1 freed -` is a snapshot's, and of a sweep a marking's.
abbrev pub IsMeant : Op → Reply → Type 0
IsMeant (op.Line (act.Finalise n)) (reply.M m) = ⊥
IsMeant (op.Line (act.Finalise n)) (reply.Took s) = Unit {0}
IsMeant op.Sweep (reply.Snapped n s) = IsNot 0 s
IsMeant op.Sweep (reply.Swept j s) = Unit {0}
IsMeant o (reply.Took s) = IsNot 1 s
IsMeant o (reply.Swept j s) = IsNot 0 s
IsMeant o r = Unit {0}
