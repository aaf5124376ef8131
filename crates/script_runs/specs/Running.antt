-- Which lines can be run, and what running them makes.
use Rattle.std.specs.Prelude.{◌≡◌, ℕ, ◌≤◌, ◌⊎◌, if◌then◌else◌, List, [], ◌∷◌, ◌++◌, All, Contains, Result, IfOk, length}
use Rattle.std.specs.Prelude.{map, Some, slice_get}
use mathlib.Core.List.{IsPrefix}
use Rattle.joint_machine.specs.declared.names.Thread.{Thread}
use Rattle.joint_machine.specs.declared.names.Thread.TheVariants.{C}
use Rattle.joint_machine.specs.declared.names.Phase.TheVariants.{Idle}
use Rattle.joint_machine.specs.declared.lines.Act.{Act}
use Rattle.joint_machine.specs.declared.lines.Act.TheVariants as act
use Rattle.joint_machine.specs.declared.events.Entry.{Entry}
use Rattle.joint_machine.specs.Components.{Rises}
use Rattle.joint_machine.specs.Control.{caller_place}
use Rattle.joint_machine.specs.Lines.{IsDriver, IsManagedThread}
use Rattle.joint_machine.specs.PeerReplay.{is_thread}
use Rattle.order_table.specs.declared.views.View.{View}
use Rattle.order_table.specs.Views.{known}
use Rattle.joint_history.specs.Callers.{KnowsNothing, Pass, last_index, own}
use Rattle.joint_history.specs.Ending.{HasIdleDriver}
use Rattle.joint_history.specs.Operations.{MakesAll}
use Rattle.bridge_cycle.specs.Progress.{Progress, pass_of, line_of}
use Rattle.bridge_script.specs.Scripts.{IsScriptLine}
use Rattle.script_laws.specs.Holding.{Standing, standing_after, AreLine, AreLeft, numbered_from}
use Rattle.run_laws.specs.LastCycle.{HasHeardOf}
use Rattle.run_laws.specs.Serial.{CallerAdds, AreOthers, IsRunSoFar, ReadsAreAnswered}
use Rattle.run_laws.specs.Threads.{HoldsItsLines, thread_lines}
use Rattle.run_laws.specs.Waits.{WaitsEnd}
use Rattle.view_laws.specs.Knowing.{IsDrawnView}
use Rattle.script_runs.specs.declared.lines.ReadCall.{ReadCall}
use Rattle.script_runs.specs.declared.lines.ReadCall.TheVariants as reads
use Rattle.joint_machine.specs.Numbers.{u32_max}

-- the lines can be run: each is one that a script can have, and their numbers are of 32 bits
pub record CanRun (script : List (Thread × Act)) : Type 0 where
  pub each : All IsScriptLine script
  pub count : length script ≤ u32_max

-- a caller made the entries of a line, and the driver stands where it stood
pub record MakesLine (t : Thread) (old new : View) (index : ℕ) (a : Act) : Type 0 where
  pub entries : List Entry
  pub made : MakesAll t old new entries
  pub line : (s : Standing) → AreLine s index (t, a) entries
  pub still : (s : Standing) → standing_after s index a entries ≡ s

-- the same by one thread that has both sides alone: a read of a managed thread is answered by the managed list that its
-- caller knows
pub record AnswersLine (t : Thread) (old new : View) (index : ℕ) (a : Act) : Type 0 where
  pub made_line : MakesLine t old new index a
  pub answered : IsDrawnView old → IsDrawnView new → ReadsAreAnswered t old new made_line.entries

-- and beside other threads: a wait of a managed thread doesn't answer `pending`
pub record WaitsLine (t : Thread) (old new : View) (index : ℕ) (a : Act) : Type 0 where
  pub made_line : MakesLine t old new index a
  pub waits : IsManagedThread t → WaitsEnd made_line.entries

-- how a line of a managed thread reads a cell without a lock: at once, or by waiting; no other line does
abbrev pub read_call : Act → ReadCall
read_call (act.Read k) = reads.Now
read_call (act.Await k) = reads.Waiting
read_call a = reads.Locked

-- the driver stands there, by its phase and its candidates
pub record StandsAs (s : Standing) (d : Progress) : Type 0 where
  pub phase : s.phase ≡ d.phase
  pub candidates : s.candidates ≡ d.candidates

-- the driver made the entries of its line, and stands where they lead
pub record DrivesLine (old new : Progress) (index : ℕ) (a : Act) : Type 0 where
  pub entries : List Entry
  pub made : MakesAll C old.view new.view entries
  pub line : (s : Standing) → StandsAs s old → AreLine s index (C, a) entries
  pub stands : (s : Standing) → StandsAs s old → StandsAs (standing_after s index a entries) new
  pub last : (s : Standing) → (standing_after s index a entries).line ≡ index

-- the driver made the entries of the phases that were left
pub record DrivesLeft (old new : Progress) (index : ℕ) : Type 0 where
  pub entries : List Entry
  pub made : MakesAll C old.view new.view entries
  pub left : (s : Standing) → StandsAs s old → s.line ≡ index → AreLeft s entries

-- a caller holds the lines of its thread, up to the last of the script, is idle if it is the driver's, and has no wait
-- that answered `pending`
pub record HasRunLines (script : List (Thread × Act)) (t : Thread) (p : Pass) : Type 0 where
  pub thread : p.thread ≡ t
  pub holds : HoldsItsLines script p
  pub up_to : last_index (own p) ≤ length script
  pub idle : HasIdleDriver p
  pub waits : IsManagedThread t → WaitsEnd (own p)

-- a driver that has made nothing yet, and knows nothing
pub record IsNewDriver (d : Progress) : Type 0 where
  pub nothing : KnowsNothing d.view
  pub phase : d.phase ≡ Idle
  pub candidates : d.candidates ≡ 0

-- a driver has run its lines and what they have left: so it is of its caller
abbrev pub HasDriven : List (Thread × Act) → Progress → Type 0
HasDriven script d = (p : Pass) → p ≡ pass_of d → HasIdleDriver p → HasRunLines script C p

-- the driver's caller stands first, and no other is the driver's
pub record DriverIsFirst (callers : List Pass) : Type 0 where
  pub driver : Pass
  pub others : List Pass
  pub all : callers ≡ driver ∷ others
  pub is_driver : driver.thread ≡ C
  pub others_are : (p : Pass) → Contains others p → IsDriver p.thread → ⊥

-- these callers have run a script: the driver's stands first, and each holds the lines of its thread
pub record HaveRun (script : List (Thread × Act)) (callers : List Pass) : Type 0 where
  pub driver_first : DriverIsFirst callers
  pub each : All (λ p. HasRunLines script p.thread p) callers

-- the thread has a line
abbrev pub HasLine : List (Thread × Act) → Thread → Type 0
HasLine script t = thread_lines t script ≡ [] → ⊥

-- the callers stand in the order of their places, c, m1 to m8 and p1 to p8, and each but the driver's is that of a
-- thread that has a line
pub record AreWorkers (script : List (Thread × Act)) (callers : List Pass) : Type 0 where
  pub rise : Rises (map (λ p. caller_place p.thread) callers)
  pub each : All (λ p. IsDriver p.thread ⊎ HasLine script p.thread) callers

-- so it is of what a thread ends with, unless it found no memory
abbrev pub EndsSo : {E : Type 0} → List (Thread × Act) → Pass → Result Pass E → Type 0
EndsSo script caller result = IfOk result (HasRunLines script caller.thread)

-- one of the others made the entries of a line, told of all that the driver knew, and the driver has heard of them
pub record TellsLine (old new : Progress) (before after : Pass) (index : ℕ) (a : Act) : Type 0 where
  pub entries : List Entry
  pub adds : CallerAdds old.view new.view before.thread (own before) (own after) entries
  pub line : (s : Standing) → AreLine s index (before.thread, a) entries
  pub still : (s : Standing) → standing_after s index a entries ≡ s
  pub own_stay : own (pass_of new) ≡ own (pass_of old)
  pub stands : (s : Standing) → StandsAs s old → StandsAs s new

-- these lines were run, the driver stands where they lead, and its last line was this one
pub record HasCome (lines : List (ℕ × (Thread × Act))) (last : ℕ) (d : Progress) (others : List Pass) : Type 0 where
  pub standing : Standing
  pub run : IsRunSoFar lines standing (pass_of d) others
  pub stands : StandsAs standing d
  pub line : standing.line ≡ last

-- the line of the driver's last line, after a line more
abbrev pub last_after : ℕ → ℕ → Thread → ℕ
last_after last number t = if is_thread C t then number else last

-- a line was run: whatever had come before, it comes behind it
abbrev pub RunsOn : ℕ → Thread → Act → Progress → Progress → List Pass → List Pass → Type 0
RunsOn number t a old new others others' = (lines : List (ℕ × (Thread × Act))) (last : ℕ)
    → HasCome lines last old others → HasCome (lines ++ (number, (t, a)) ∷ []) (last_after last number t) new others'

-- none of the others has come past the line
abbrev pub AreUpTo : ℕ → List Pass → Type 0
AreUpTo line others = (i : ℕ) (p : Pass) → slice_get others i ≡ Some p → last_index (own p) ≤ line

-- all lines were run
pub record HasComeThrough (script : List (Thread × Act)) (last : ℕ) (d : Progress) (others : List Pass) : Type 0 where
  pub come : HasCome (numbered_from 1 script) last d others
  pub others_are : AreOthers others
  pub driven : line_of d ≤ last

-- a caller stands where one stood that made the same entries, and is of the same thread
pub record IsSame (old new : Pass) : Type 0 where
  pub thread : new.thread ≡ old.thread
  pub own_same : own new ≡ own old

-- so it is of each of them
pub record AreSame (old new : List Pass) : Type 0 where
  pub count : length new ≡ length old
  pub each : (i : ℕ) (p : Pass) → slice_get new i ≡ Some p → (q : Pass) × (slice_get old i ≡ Some q) × IsSame q p

-- the driver has heard of all that the others have made, and knows all that it knew
pub record HearsAll (old new : Progress) (before after : List Pass) : Type 0 where
  pub same : AreSame before after
  pub heard : All (HasHeardOf new.view) after
  pub knew : (i : ℕ) → IsPrefix (known old.view i) (known new.view i)
  pub own_stay : own (pass_of new) ≡ own (pass_of old)
  pub stands : new ≡ record old { view = new.view }
