-- What holds of reading reports back: a text is read as one history, each history's report is read, and as a history
-- that is like it.
use Rattle.std.specs.Prelude.{◌≡◌, ℕ, ◌<◌, ◌^◌, List, [], ◌∷◌, length, All}
use Rattle.joint_machine.specs.declared.events.Reply.{Reply}
use Rattle.joint_machine.specs.declared.events.Reply.TheVariants as reply
use Rattle.joint_machine.specs.declared.events.Entry.{Entry}
use Rattle.joint_machine.specs.Histories.{Finished}
use Rattle.history_report.specs.Report.{report}
use Rattle.entry_reader.specs.Meant.{IsMeant}
use Rattle.report_reader.specs.Reading.{IsValue, IsReadAs, SpansRun, no_ends}
use Rattle.report_reader.specs.Answers.{as_named}

-- bytes are read as at most one history
abbrev pub ReportsAreOne : Type 0
ReportsAreOne = (bytes : List ℕ) (g h : Finished) → IsReadAs bytes g → IsReadAs bytes h → g ≡ h

-- the replies are the same but for where their spans stand, or they are two readings of one text
abbrev pub IsReading : Reply → Reply → Type 0
IsReading (reply.M m) (reply.Took s) = Unit {0}
IsReading (reply.Took s) (reply.M m) = Unit {0}
IsReading (reply.Took s) (reply.Took t) = Unit {0}
IsReading (reply.Snapped n s) (reply.Swept j t) = n ≡ j.0
IsReading (reply.Swept j s) (reply.Snapped n t) = j.0 ≡ n
IsReading (reply.Snapped n s) (reply.Snapped m t) = n ≡ m
IsReading (reply.Swept j s) (reply.Swept k t) = j ≡ k
IsReading (reply.Freed s) (reply.Freed t) = Unit {0}
IsReading r s = r ≡ s

-- the entries are the same but for the spans and readings of their replies
pub record IsAlike (e f : Entry) : Type 0 where
  pub number : e.number ≡ f.number
  pub caller : e.made.caller ≡ f.made.caller
  pub index : e.made.index ≡ f.made.index
  pub op : e.made.op ≡ f.made.op
  pub reply : IsReading e.made.reply f.made.reply
  pub cites : e.made.cites ≡ f.made.cites

abbrev pub AreAlike : List Entry → List Entry → Type 0
AreAlike [] [] = Unit {0}
AreAlike (e ∷ es) (f ∷ fs) = IsAlike e f × AreAlike es fs
AreAlike _ _ = ⊥

-- the report of a history is read, and as these entries
pub record IsReadBack (h : Finished) : Type 0 where
  pub history : Finished
  pub reads : IsReadAs (report h) history
  pub alike : AreAlike h.entries history.entries

-- so it is of each history, where its report has fewer than 2^32 bytes: a span can name so many numbers
abbrev pub EachIsReadBack : Type 0
EachIsReadBack = (h : Finished) → IsValue h → length (report h) < 2 ^ 32 → IsReadBack h

-- a history whose replies are those that their events have, and whose spans stand one behind another, is read of its
-- report as itself, but for what stands in its lists behind the last number that is named
abbrev pub NamedIsRead : Type 0
NamedIsRead = (h : Finished) → IsValue h → All (λ e. IsMeant e.made.op e.made.reply) h.entries
    → SpansRun no_ends h.entries → length (report h) < 2 ^ 32 → IsReadAs (report h) (as_named h)
