-- Which numbers of an entry fit their types: those that a report can be read as.
-- Believed: the clauses of the program's top call rest on all that stands here.
use Rattle.std.specs.Prelude.{ℕ, ◌<◌, ◌^◌, Option, Some, None}
use Rattle.joint_machine.specs.declared.names.Span.{Span}
use Rattle.joint_machine.specs.declared.events.Op.{Op}
use Rattle.joint_machine.specs.declared.events.Op.TheVariants as op
use Rattle.joint_machine.specs.declared.events.Reply.{Reply}
use Rattle.joint_machine.specs.declared.events.Reply.TheVariants as reply
use Rattle.joint_machine.specs.declared.events.Entry.{Entry}

-- a number of an object, a handle, a cycle, a marking, a count, a place or a line
abbrev pub Short : ℕ → Type 0
Short n = n < 2 ^ 32

-- both numbers of a span
abbrev pub ShortSpan : Span → Type 0
ShortSpan s = Short s.first × Short s.count

-- the numbers of an event that nothing else bounds
abbrev pub FitsOp : Op → Type 0
FitsOp (op.Adopt v k n p h) = Short p.0 × Short h.0
FitsOp (op.Land h x) = Short h.0
FitsOp (op.Meet v s n p h) = Short p.0 × Short h.0
FitsOp (op.Release h) = Short h.0
FitsOp (op.Snap k) = Short k.0
FitsOp (op.Contract k) = Short k.0
FitsOp (op.Mirror k) = Short k.0
FitsOp (op.Weaken h) = Short h.0
FitsOp (op.Restore h) = Short h.0
FitsOp (op.Clear k) = Short k.0
FitsOp (op.Resolve k) = Short k.0
FitsOp (op.Abandon k) = Short k.0
FitsOp _ = Unit {0}

-- the numbers of a reply
abbrev pub FitsReply : Reply → Type 0
FitsReply (reply.M m) = Short m.0
FitsReply (reply.P p) = Short p.0
FitsReply (reply.H h) = Short h.0
FitsReply (reply.Renewed h) = Short h.0
FitsReply (reply.New m) = Short m.0
FitsReply (reply.Twin m) = Short m.0
FitsReply (reply.Made p h) = Short p.0 × Short h.0
FitsReply (reply.Gripped p h s n) = Short p.0 × Short h.0 × (n < 2 ^ 8)
FitsReply (reply.Pending k) = Short k.0
FitsReply (reply.Pinned m) = Short m.0
FitsReply (reply.Mark j) = Short j.0
FitsReply (reply.MarkOpen j) = Short j.0
FitsReply (reply.CycleOpen k) = Short k.0
FitsReply (reply.Snapped n s) = Short n × ShortSpan s
FitsReply (reply.Sccs n m) = Short n × Short m
FitsReply (reply.Refs n) = Short n
FitsReply (reply.Swept j s) = Short j.0 × ShortSpan s
FitsReply (reply.Freed s) = ShortSpan s
FitsReply (reply.Took s) = ShortSpan s
FitsReply _ = Unit {0}

-- the number of an entry that is cited
abbrev pub FitsCites : Option ℕ → Type 0
FitsCites None = Unit {0}
FitsCites (Some n) = n < 2 ^ 64

-- each number of an entry fits its type
pub record FitsTypes (e : Entry) : Type 0 where
  pub number : e.number < 2 ^ 64
  pub line : Short e.made.index
  pub event : FitsOp e.made.op
  pub reply : FitsReply e.made.reply
  pub cites : FitsCites e.made.cites
