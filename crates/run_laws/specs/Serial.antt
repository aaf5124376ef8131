-- A run line after line: the driver's seat hears of each line's entries and tells the next line's caller, so that
-- numbers rise from line to line and what all callers hold is the script in its order.
use Rattle.std.specs.Prelude.{◌≡◌, ℕ, true, ◌+◌, List, [], ◌∷◌, ◌++◌, All, Contains, Some, length, slice_get, slice_set}
use mathlib.Core.List.{IsPrefix}
use Rattle.joint_machine.specs.declared.names.Thread.{Thread}
use Rattle.joint_machine.specs.declared.names.Thread.TheVariants.{C}
use Rattle.joint_machine.specs.declared.lines.Act.{Act}
use Rattle.joint_machine.specs.declared.events.Entry.{Entry}
use Rattle.joint_machine.specs.Components.{Rises}
use Rattle.joint_machine.specs.Histories.{Finished}
use Rattle.joint_machine.specs.HistoryLines.{caller_line, entries_in, stands_in}
use Rattle.joint_machine.specs.Lines.{IsManagedThread, IsThread, is_read}
use Rattle.joint_machine.specs.LinkedHistories.{IsLinked}
use Rattle.joint_machine.specs.Readers.{ReadsCell}
use Rattle.order_table.specs.declared.views.View.{View}
use Rattle.order_table.specs.Views.{known}
use Rattle.joint_history.specs.Callers.{Hears, Pass, Tells, own}
use Rattle.joint_history.specs.Desks.{Waiting, thread_of}
use Rattle.joint_history.specs.Ending.{HasAll, HasOwn}
use Rattle.joint_history.specs.Knowing.{line_known}
use Rattle.joint_history.specs.Operations.{AreAbove, MakesAll}
use Rattle.script_laws.specs.Asides.{AsidesAreExact, IsAsideBy}
use Rattle.script_laws.specs.Growing.{numbers_of}
use Rattle.script_laws.specs.Holding.{Standing, opening_standing, standing_after, AreLine, AreLeft, HoldsInOrder}
use Rattle.script_laws.specs.Holding.{numbered_from, entries_by}
use Rattle.script_laws.specs.SoFar.{HoldsSoFar}

-- a call's read was made alone, and its answer is right by a managed list that the caller knows then, in which all
-- stands of the managed list that was known before it of any caller
pub record IsAnswered (old new : View) (es : List Entry) (e : Entry) : Type 0 where
  pub alone : es ≡ e ∷ []
  pub list : List Entry
  pub begins : IsPrefix list (line_known new 0)
  pub has : (f : Entry) → Contains (line_known old (caller_line f.made.caller)) f
      → stands_in 0 f ≡ true → Contains list f
  pub exact : (k : ℕ) → ReadsCell e.made.op k → IsAsideBy list k e.made.reply

-- so each read is of a managed thread's call
abbrev pub ReadsAreAnswered : Thread → View → View → List Entry → Type 0
ReadsAreAnswered t old new es = IsManagedThread t → (e : Entry)
    → Contains es e → is_read e.made.op ≡ true → IsAnswered old new es e

-- a caller made these entries: they stand at the end of its own, their numbers are above all that the driver's seat
-- knew, and the driver's seat knows them now
pub record CallerAdds (old new : View) (t : Thread) (mine mine' es : List Entry) : Type 0 where
  pub more : (i : ℕ) → IsPrefix (known old i) (known new i)
  pub above : AreAbove old es
  pub own_more : mine' ≡ mine ++ es
  pub heard : IsPrefix mine' (line_known new (caller_line t))
  pub reads : ReadsAreAnswered t old new es

-- so it is where the driver tells the caller what it knows, the caller makes its entries, and the driver hears of them
abbrev pub ToldCallersAdd : Type 0
ToldCallersAdd = (driver told heard before after ended left : Pass) (es : List Entry)
    → Tells driver told → Hears driver before after → ended.thread ≡ after.thread
    → MakesAll after.thread after.view ended.view es → ReadsAreAnswered after.thread after.view ended.view es
    → Tells ended left → Hears ended told heard
    → CallerAdds driver.view heard.view before.thread (own before) (own left) es

-- and where the driver makes them itself
abbrev pub DriversAdd : Type 0
DriversAdd = (driver after : Pass) (es : List Entry) → driver.thread ≡ C → after.thread ≡ driver.thread
    → MakesAll driver.thread driver.view after.view es
    → CallerAdds driver.view after.view driver.thread (own driver) (own after) es

-- the callers of all threads but the driver's, by place
pub record AreOthers (others : List Pass) : Type 0 where
  pub count : length others ≡ 16
  pub each : (i : ℕ) (p : Pass) → slice_get others i ≡ Some p → p.thread ≡ thread_of (i + 1)

-- a read's answer is right by a managed list that the driver's seat knows: all of the managed list that was made before
-- the read stands in it, and nothing that was made after it
pub record IsReadBy (v : View) (before after : List Entry) (e : Entry) : Type 0 where
  pub list : List Entry
  pub begins : IsPrefix list (line_known v 0)
  pub has : (f : Entry) → Contains before f → stands_in 0 f ≡ true → Contains list f
  pub later : (f : Entry) → Contains after f → Contains list f → ⊥
  pub exact : (k : ℕ) → ReadsCell e.made.op k → IsAsideBy list k e.made.reply

-- so it is of each read of a managed thread among these entries, with those made before them
abbrev pub AllReadBy : View → List Entry → List Entry → Type 0
AllReadBy v before [] = Unit {0}
AllReadBy v before (e ∷ es) = (is_read e.made.op ≡ true → IsManagedThread e.made.caller → IsReadBy v before es e)
    × AllReadBy v (before ++ e ∷ []) es

-- these lines have been run, one after another: the entries made are theirs, each caller has its own of them, the
-- driver's seat knows them all, their numbers rise where those of each caller do, and each read was answered by the
-- managed list that was made before it
pub record IsRunSoFar (lines : List (ℕ × (Thread × Act)))
    (s : Standing) (driver : Pass) (others : List Pass) : Type 0 where
  pub made : List Entry
  pub holds : HoldsSoFar opening_standing lines made s
  pub thread : driver.thread ≡ C
  pub driven : own driver ≡ entries_by C made
  pub each : (i : ℕ) (p : Pass) → slice_get others i ≡ Some p → own p ≡ entries_by p.thread made
  pub callers : (e : Entry) → Contains made e → IsThread e.made.caller
  pub heard : (e : Entry) → Contains made e → Contains (line_known driver.view (caller_line e.made.caller)) e
  pub rises : ((t : Thread) → IsThread t → Rises (numbers_of (entries_by t made))) → Rises (numbers_of made)
  pub reads : AllReadBy driver.view [] made

-- before the first line
abbrev pub NothingIsRun : Type 0
NothingIsRun = (driver : Pass) (others : List Pass) → driver.thread ≡ C → own driver ≡ []
    → ((i : ℕ) (p : Pass) → slice_get others i ≡ Some p → own p ≡ []) → IsRunSoFar [] opening_standing driver others

-- a line more of one of the others
abbrev pub OthersRunOn : Type 0
OthersRunOn = (lines : List (ℕ × (Thread × Act))) (s : Standing) (driver heard : Pass) (others : List Pass)
    (i : ℕ) (p q : Pass) (number : ℕ) (act : Act) (es : List Entry) → AreOthers others → slice_get others i ≡ Some p
    → q.thread ≡ p.thread → heard.thread ≡ driver.thread → own heard ≡ own driver
    → CallerAdds driver.view heard.view p.thread (own p) (own q) es → AreLine s number (p.thread, act) es
    → IsRunSoFar lines s driver others → IsRunSoFar (lines ++ (number, (p.thread, act)) ∷ [])
    (standing_after s number act es) heard (slice_set others i q)

-- a line more of the driver
abbrev pub DriverRunsOn : Type 0
DriverRunsOn = (lines : List (ℕ × (Thread × Act))) (s : Standing) (driver after : Pass) (others : List Pass)
    (number : ℕ) (act : Act) (es : List Entry) → AreOthers others → after.thread ≡ driver.thread
    → CallerAdds driver.view after.view C (own driver) (own after) es
    → AreLine s number (C, act) es → IsRunSoFar lines s driver others
    → IsRunSoFar (lines ++ (number, (C, act)) ∷ []) (standing_after s number act es) after others

-- entries hold the script in line order, and each read among them that is set aside is right by the managed list before
-- it
pub record HoldsExactly (script : List (Thread × Act)) (entries : List Entry) : Type 0 where
  pub lines : HoldsInOrder script entries
  pub asides : AsidesAreExact [] entries

-- once all lines and the phases left have been run, the finished history, of whose managed list the driver knows a
-- beginning, holds the script so
abbrev pub RunsHoldScript : Type 0
RunsHoldScript = (script : List (Thread × Act)) (h : Finished) (s : Standing) (driver after : Pass)
    (others : List Pass) (left : List Entry) → IsLinked h → AreOthers others → after.thread ≡ driver.thread
    → CallerAdds driver.view after.view C (own driver) (own after) left → AreLeft s left
    → IsRunSoFar (numbered_from 1 script) s driver others → All (HasOwn h.entries) (others ++ after ∷ [])
    → IsPrefix (line_known after.view 0) (entries_in 0 h.entries) → HoldsExactly script h.entries

-- the callers of all threads are given out then
abbrev pub AllAreGiven : Type 0
AllAreGiven = (d : Waiting) (others : List Pass) (driver : Pass)
    → AreOthers others → driver.thread ≡ C → HasAll d (others ++ driver ∷ [])
