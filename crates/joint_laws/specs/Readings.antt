-- What the reads of a history are: exact, and with which run of the one machine.
-- Believed: the clauses of the program's top call rest on all that stands here.
use Rattle.std.specs.Prelude.{◌≡◌, ℕ, List, [], ◌∷◌}
use Rattle.joint_machine.specs.Headline.{IsSoundRun, IsCompleteRun}
use Rattle.joint_machine.specs.Linked.{Linkage}
use Rattle.joint_machine.specs.LinkedHistories.{joint_projection}
use Rattle.joint_machine.specs.Managed.{read_cell}
use Rattle.joint_machine.specs.Readers.{ReadsCell, entry_after}
use Rattle.joint_machine.specs.Run.{Moment, IsRun, thread_number}
use Rattle.joint_machine.specs.Told.{Noted}
use Rattle.joint_machine.specs.declared.events.Op.TheVariants as op

-- some moments are a run over its joint projection, sound and complete
abbrev pub HasReadingRun : List Noted → Type 0
HasReadingRun noted = (run : List Moment) × IsRun (joint_projection noted) run × IsSoundRun run × IsCompleteRun run

-- each read answers as the one machine does at its number
abbrev pub AreExact : Linkage → List Noted → Type 0
AreExact s [] = Unit {0}
AreExact s (n ∷ ns) = ((k : ℕ) → ReadsCell n.entry.made.op k
    → n.entry.made.reply ≡ (read_cell s.managed.managed (thread_number n.entry.made.caller) k).reply)
    × AreExact (entry_after s n) ns
