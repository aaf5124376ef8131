-- A run thread by thread: what each thread's caller holds while its lines are run, and that what all hold is the
-- script.
use Rattle.std.specs.Prelude.{◌≡◌, ℕ, ◌+◌, false, List, [], ◌++◌, All, Contains, Some, length, slice_get, take}
use Rattle.joint_machine.specs.declared.names.Thread.{Thread}
use Rattle.joint_machine.specs.declared.names.Cell.{Cell}
use Rattle.joint_machine.specs.declared.names.Cycle.{Cycle}
use Rattle.joint_machine.specs.declared.lines.Act.{Act}
use Rattle.joint_machine.specs.declared.lines.Act.TheVariants as act
use Rattle.joint_machine.specs.declared.events.Reply.TheVariants as says
use Rattle.joint_machine.specs.declared.events.Entry.{Entry}
use Rattle.joint_machine.specs.Histories.{Finished}
use Rattle.joint_machine.specs.Lines.{IsLine, IsManagedThread, IsThread}
use Rattle.joint_machine.specs.LinkedHistories.{IsLinked}
use Rattle.joint_machine.specs.PeerReplay.{is_thread}
use Rattle.known_laws.specs.Lists.{made_by}
use Rattle.joint_history.specs.declared.callers.Receipt.{Receipt}
use Rattle.joint_history.specs.Callers.{Pass, own}
use Rattle.joint_history.specs.Desks.{Waiting}
use Rattle.joint_history.specs.Ending.{HasAll, HasOwn, StillWaits}
use Rattle.joint_history.specs.Operations.{IsOperation}
use Rattle.script_laws.specs.Holding.{Standing, opening_standing, standing_after, AreLine, AreLeft, HoldsLines}
use Rattle.script_laws.specs.Holding.{HoldsPerThread, numbered_from, lines_of}
use Rattle.script_laws.specs.SoFar.{HoldsSoFar}
use Rattle.run_laws.specs.Waits.{WaitsEnd}

-- the lines of a thread, with their numbers
abbrev pub thread_lines : Thread → List (Thread × Act) → List (ℕ × (Thread × Act))
thread_lines t script = lines_of t (numbered_from 1 script)

-- the caller's entries are those of its thread's lines
abbrev pub HoldsItsLines : List (Thread × Act) → Pass → Type 0
HoldsItsLines script p = HoldsLines opening_standing (thread_lines p.thread script) (own p)

-- they are those of its lines among the first n of the script, and lead to where the driver stands
abbrev pub HoldsItsFirst : List (Thread × Act) → ℕ → Pass → Standing → Type 0
HoldsItsFirst script n p s = HoldsSoFar opening_standing (thread_lines p.thread (take n script)) (own p) s

-- no line is another thread's
abbrev pub OthersLinesPass : Type 0
OthersLinesPass = (script : List (Thread × Act)) (n : ℕ) (p : Pass) (s : Standing) (line : Thread × Act)
    → slice_get script n ≡ Some line → is_thread p.thread line.0 ≡ false
    → HoldsItsFirst script n p s → HoldsItsFirst script (n + 1) p s

-- with its next line's entries behind its own it holds a line more
abbrev pub OwnLinesAdd : Type 0
OwnLinesAdd = (script : List (Thread × Act)) (n : ℕ) (p q : Pass) (s : Standing) (line : Thread × Act) (es : List Entry)
    → slice_get script n ≡ Some line → line.0 ≡ p.thread → q.thread ≡ p.thread
    → own q ≡ own p ++ es → AreLine s (n + 1) line es → HoldsItsFirst script n p s
    → HoldsItsFirst script (n + 1) q (standing_after s (n + 1) line.1 es)

-- with the phases left behind all of its lines it holds them all
abbrev pub OwnLinesEnd : Type 0
OwnLinesEnd = (script : List (Thread × Act)) (p q : Pass) (s : Standing) (left : List Entry) → q.thread ≡ p.thread
    → own q ≡ own p ++ left → AreLeft s left → HoldsItsFirst script (length script) p s → HoldsItsLines script q

-- who still waits has no line
abbrev pub NoneIsLeft : List (Thread × Act) → Waiting → Type 0
NoneIsLeft script d = (t : Thread) → IsThread t → StillWaits d t → thread_lines t script ≡ []

-- where each caller that was given out holds its thread's lines, and no other thread has any, the finished history
-- holds the script
abbrev pub ThreadsHoldScript : Type 0
ThreadsHoldScript = (script : List (Thread × Act)) (h : Finished) (d : Waiting) (callers : List Pass)
    → IsLinked h → ((line : Thread × Act) → Contains script line → IsLine line.0 line.1)
    → HasAll d callers → All (HasOwn h.entries) callers
    → ((t : Thread) → IsThread t → StillWaits d t → made_by t h.entries ≡ [])
    → All (HoldsItsLines script) callers → NoneIsLeft script d → HoldsPerThread script h.entries

-- so it is with more entries of which none did
abbrev pub MoreWaitsEnd : Type 0
MoreWaitsEnd = (es fs : List Entry) → WaitsEnd es → WaitsEnd fs → WaitsEnd (es ++ fs)

-- and of an operation that isn't a wait which answered so
abbrev pub OperationsWaitsEnd : Type 0
OperationsWaitsEnd = (t : Thread) (index : ℕ) (a : Act) (es : List Entry) (r : Receipt) → IsOperation t index a es r
    → ((k : Cell) (c : Cycle) → a ≡ act.Await k → r.reply ≡ says.Pending c → ⊥) → WaitsEnd es

-- and of the finished history, where it is of each managed thread's caller that was given out
abbrev pub CallersWaitsEnd : Type 0
CallersWaitsEnd = (h : Finished) (d : Waiting) (callers : List Pass) → IsLinked h → HasAll d callers
    → All (HasOwn h.entries) callers → ((t : Thread) → IsThread t → StillWaits d t → made_by t h.entries ≡ [])
    → All (λ p. IsManagedThread p.thread → WaitsEnd (own p)) callers → WaitsEnd h.entries
