-- That no read that waits answered pending.
-- Believed: the clauses of the program's top call rest on all that stands here.
use Rattle.std.specs.Prelude.{◌≡◌, List, Contains}
use Rattle.joint_machine.specs.declared.names.Cell.{Cell}
use Rattle.joint_machine.specs.declared.names.Cycle.{Cycle}
use Rattle.joint_machine.specs.declared.events.Entry.{Entry}
use Rattle.joint_machine.specs.declared.lines.Act.TheVariants as act
use Rattle.joint_machine.specs.declared.events.Op.TheVariants as op
use Rattle.joint_machine.specs.declared.events.Reply.TheVariants as says

-- no read that waits answered `pending`: each is answered once no cycle is in its way
abbrev pub WaitsEnd : List Entry → Type 0
WaitsEnd es = (e : Entry) → Contains es e → (k : Cell) (c : Cycle)
    → e.made.op ≡ op.Line (act.Await k) → e.made.reply ≡ says.Pending c → ⊥
