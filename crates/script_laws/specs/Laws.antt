-- A script has one linked history in line order, and a text is the report of one.
use Rattle.std.specs.Prelude.{◌≡◌, ◌<◌, ◌^◌, List, length}
use Rattle.joint_machine.specs.declared.names.Thread.{Thread}
use Rattle.joint_machine.specs.declared.lines.Act.{Act}
use Rattle.joint_machine.specs.declared.events.Entry.{Entry}
use Rattle.joint_machine.specs.Histories.{Finished}
use Rattle.joint_machine.specs.Linked.{opening_linkage}
use Rattle.joint_machine.specs.LinkedHistories.{IsLinked}
use Rattle.joint_laws.specs.Readings.{AreExact}
use Rattle.history_report.specs.Report.{report}
use Rattle.script_laws.specs.Holding.{HoldsInOrder, HoldsPerThread}
use Rattle.script_laws.specs.OneHistory.{IsOneHistory}

-- two linked histories that hold the lines of one script in line order are one, where each read answers as the one
-- machine does at its number: a read may answer that it waits, or that its cell is unset, where its caller can't know
-- better, and then there are two
abbrev pub HasOneHistory : Type 0
HasOneHistory = (script : List (Thread × Act)) (g h : Finished) (a : IsLinked g) (b : IsLinked h)
    → AreExact opening_linkage a.noted → AreExact opening_linkage b.noted
    → HoldsInOrder script g.entries → HoldsInOrder script h.entries → IsOneHistory g h a b

-- two linked histories with the same text are one, where one has fewer than 2^64 entries: a decimal is cut to its last
-- 64 digits, and a read that waits names its cycle by one
abbrev pub HasOneText : Type 0
HasOneText = (g h : Finished) (a : IsLinked g) (b : IsLinked h)
    → length h.entries < 2 ^ 64 → report g ≡ report h → IsOneHistory g h a b

-- who runs a script line after line runs each thread's lines in their order
abbrev pub LineOrderGivesThreadOrder : Type 0
LineOrderGivesThreadOrder = (script : List (Thread × Act)) (entries : List Entry)
    → HoldsInOrder script entries → HoldsPerThread script entries
