-- That a history that holds a script's lines ends each cycle.
use Rattle.std.specs.Prelude.{List}
use Rattle.joint_machine.specs.declared.names.Thread.{Thread}
use Rattle.joint_machine.specs.declared.names.Thread.TheVariants.{C}
use Rattle.joint_machine.specs.declared.lines.Act.{Act}
use Rattle.joint_machine.specs.declared.events.Entry.{Entry}
use Rattle.joint_machine.specs.Histories.{Finished}
use Rattle.joint_machine.specs.LinkedHistories.{IsLinkedBy}
use Rattle.joint_machine.specs.Told.{Noted}
use Rattle.script_laws.specs.Holding.{HoldsInOrder, HoldsPerThread, entries_by}
use Rattle.script_laws.specs.Closing.{AllCyclesClose}
use Rattle.script_laws.specs.Ending.{AllCyclesEnd}

-- a history that holds a script's lines in order closes each cycle
abbrev pub HeldCyclesEnd : Type 0
HeldCyclesEnd = (script : List (Thread × Act)) (entries : List Entry)
    → HoldsInOrder script entries → AllCyclesClose entries

-- and so do the driver's entries of a history that holds them thread by thread
abbrev pub HeldThreadCyclesEnd : Type 0
HeldThreadCyclesEnd = (script : List (Thread × Act)) (entries : List Entry)
    → HoldsPerThread script entries → AllCyclesClose (entries_by C entries)

-- in a linked history it is its own resolve that comes after each snap, so each cycle ends
abbrev pub LinkedCyclesEnd : Type 0
LinkedCyclesEnd = (h : Finished) (noted : List Noted)
    → IsLinkedBy h noted → AllCyclesClose h.entries → AllCyclesEnd h.entries

-- a linked history that holds a script's lines thread by thread closes each cycle too, whatever the others do meanwhile
abbrev pub ThreadHistoryEnds : Type 0
ThreadHistoryEnds = (script : List (Thread × Act)) (h : Finished) (noted : List Noted)
    → IsLinkedBy h noted → HoldsPerThread script h.entries → AllCyclesClose h.entries
