-- What the top call promises: which words are a command, and what each status tells.
-- Believed: the clauses of the program's top call rest on all that stands here.
use Rattle.std.specs.Prelude.{◌≡◌, ◌⊎◌, ℕ, ◌≤◌, List, [], ◌∷◌, ◌++◌, length, Option, Some, codes}
use Rattle.std.specs.Io.KnownBytes.{Keeps}
use Rattle.joint_machine.specs.declared.names.Thread.{Thread}
use Rattle.joint_machine.specs.declared.lines.Act.{Act}
use Rattle.joint_machine.specs.Histories.{Finished}
use Rattle.joint_machine.specs.LinkedHistories.{IsLinkedBy, linked_end}
use Rattle.joint_machine.specs.Told.{Noted}
use Rattle.bridge_script.specs.declared.faults.ScriptFault.{ScriptFault}
use Rattle.bridge_script.specs.Causes.{fault_text}
use Rattle.byte_streams.specs.Faults.{AppendsPart, Rose}
use Rattle.bridge_script.specs.Scripts.{IsText}
use Rattle.bridge_script.specs.Reading.{TookScript, TookFault}
use Rattle.history_report.specs.Report.{report}
use Rattle.graph_listing.specs.Listing.{Listed, cycles_text}
use Rattle.command_words.specs.declared.commands.Mode.{Mode}
use Rattle.command_words.specs.declared.commands.Mode.TheVariants as mode
use Rattle.command_words.specs.declared.commands.Command.{Command}
use Rattle.command_words.specs.declared.commands.Command.TheVariants as command
use Rattle.command_words.specs.Commands.{AreWordsOf}
use Rattle.generated_laws.specs.Counts.{generated_tally}
use Rattle.run_laws.specs.Final.{IsRunInOrder, IsRunByThreads}
use Rattle.run_laws.specs.WithCycle.{IsRunThenCycle, cycle_line}
use Rattle.listing_laws.specs.Listings.{IsListingOf}
use Rattle.run_summary.specs.Summary.{summary_text}
use Rattle.script_generator.specs.Generated.{generated}
use Rattle.summary_laws.specs.States.{tally_in}
use Rattle.log_text.specs.declared.lines.LogLine.{LogLine}
use Rattle.log_text.specs.Text.{IsLogText}
use Rattle.bridge_program.specs.Logs.{LeftPut, LogFaultPut, LoggedPut, MOST_BYTES}
use Rattle.bridge_program.specs.Checks.{CheckPut, MayCheck, ReportRefusalPut}

-- the words, as bytes, are a command
abbrev pub IsCommand : List (List ℕ) → Type 0
IsCommand words = (c : Command) × AreWordsOf words c

-- the command reads a script and runs it
abbrev pub TakesScript : Command → Type 0
TakesScript (command.Run m) = Unit {0}
TakesScript command.Compare = Unit {0}
TakesScript command.References = Unit {0}
TakesScript c = ⊥

-- they are one that reads a script
pub record ReadsScript (words : List (List ℕ)) : Type 0 where
  pub asked : Command
  pub command : AreWordsOf words asked
  pub takes : TakesScript asked

-- they are one that reads its input: a script, a log or a report
abbrev pub ReadsInput : List (List ℕ) → Type 0
ReadsInput words = ReadsScript words ⊎ AreWordsOf words command.Leaks ⊎ AreWordsOf words command.Check

-- the line that tells how the program is called
abbrev pub usage_text : List ℕ
usage_text = codes "usage: bridge_run COMMAND\n"

-- the history of a script's run in a mode: line after line, where it is the only one, or thread by thread
abbrev pub IsRunIn : Mode → List (Thread × Act) → Finished → Type 0
IsRunIn mode.Serial script history = IsRunInOrder script history
IsRunIn mode.Threads script history = IsRunByThreads script history

-- the history of a generated script's run in a mode, with one cycle more at its end: line after line, where it is the
-- only one, or thread by thread
abbrev pub IsGeneratedRunIn : Mode → List (Thread × Act) → Finished → Type 0
IsGeneratedRunIn mode.Serial script history = IsRunInOrder (script ++ cycle_line ∷ []) history
    × IsRunThenCycle script history
IsGeneratedRunIn mode.Threads script history = IsRunThenCycle script history

-- the history of the run of a seed's and a size's script in a mode. The numbers of the state after its last entry, what
-- was made and what is left, are a function of the seed and the size, the same in either mode
pub record IsGeneratedRunOf (asked : Mode) (seed size : ℕ) (history : Finished) : Type 0 where
  pub run : IsGeneratedRunIn asked (generated seed size) history
  pub last : (noted : List Noted) → IsLinkedBy history noted → tally_in (linked_end noted) ≡ generated_tally seed size

-- In what follows `Put` says what was done with the text that is due: all of it was appended to what the sink held, or
-- a beginning. Where a source or a sink tells no bytes, as a process's own streams, what is said of bytes says nothing.

-- the usage line is due for words that are no command
pub record UsagePut (words : List (List ℕ)) (Put : List ℕ → Type 0) : Type 0 where
  pub no_command : IsCommand words → ⊥
  pub text : Put usage_text

-- a refusal: what was taken from the source is no script, and the text is the line that names its first fault
pub record FaultPut (left rest : Option (List ℕ)) (Put : List ℕ → Type 0) : Type 0 where
  pub fault : ScriptFault
  pub took : TookFault left rest fault
  pub text : Put (fault_text fault)

-- it is due where the words ask for a script to be read
pub record ScriptRefusalPut (words : List (List ℕ)) (left rest : Option (List ℕ)) (Put : List ℕ → Type 0) : Type 0 where
  pub command : ReadsScript words
  pub put : FaultPut left rest Put

-- and one of a log where they ask for a log
pub record LogRefusalPut (words : List (List ℕ)) (left rest : Option (List ℕ)) (Put : List ℕ → Type 0) : Type 0 where
  pub command : AreWordsOf words command.Leaks
  pub put : LogFaultPut left rest Put

-- a refusal of what the words ask for
abbrev pub RefusalPut : List (List ℕ) → Option (List ℕ) → Option (List ℕ) → (List ℕ → Type 0) → Type 0
RefusalPut words left rest Put = ScriptRefusalPut words left rest Put
    ⊎ LogRefusalPut words left rest Put ⊎ ReportRefusalPut words left rest Put

-- a report: the source was read to its end, what was taken is a text of the script, and the text is the report of a
-- history of its run in that mode
pub record RunPut (asked : Mode) (left rest : Option (List ℕ)) (Put : List ℕ → Type 0) : Type 0 where
  pub script : List (Thread × Act)
  pub history : Finished
  pub took : TookScript left rest script
  pub run : IsRunIn asked script history
  pub text : Put (report history)

-- it is due where the words ask for a script to be run in that mode
pub record ReportPut (words : List (List ℕ)) (left rest : Option (List ℕ)) (Put : List ℕ → Type 0) : Type 0 where
  pub asked : Mode
  pub command : AreWordsOf words (command.Run asked)
  pub put : RunPut asked left rest Put

-- a summary is due where the words ask for a script to be made: nothing was read, and the text has the numbers of the
-- last state of a history of its run in that mode, with one cycle more
pub record SummaryPut (words : List (List ℕ)) (left rest : Option (List ℕ)) (Put : List ℕ → Type 0) : Type 0 where
  pub seed : ℕ
  pub size : ℕ
  pub asked : Mode
  pub command : AreWordsOf words (command.Generate seed size asked)
  pub unread : rest ≡ left
  pub history : Finished
  pub run : IsGeneratedRunOf asked seed size history
  pub text : Put (summary_text seed size asked (length (generated seed size)) (generated_tally seed size))

-- a listing: the source was read to its end, what was taken is a text of the script, and the text is the listing of the
-- cycles of the history of its run in order
pub record ComparedPut (left rest : Option (List ℕ)) (Put : List ℕ → Type 0) : Type 0 where
  pub script : List (Thread × Act)
  pub history : Finished
  pub took : TookScript left rest script
  pub run : IsRunInOrder script history
  pub listing : List ℕ
  pub lists : IsListingOf history listing
  pub text : Put listing

-- it is due where the words ask for the components of a script's cycles
pub record ListingPut (words : List (List ℕ)) (left rest : Option (List ℕ)) (Put : List ℕ → Type 0) : Type 0 where
  pub command : AreWordsOf words command.Compare
  pub put : ComparedPut left rest Put

-- a log is due where the words ask for the references of a script's run
pub record LogPut (words : List (List ℕ)) (left rest : Option (List ℕ)) (Put : List ℕ → Type 0) : Type 0 where
  pub command : AreWordsOf words command.References
  pub put : LoggedPut left rest Put

-- what a log never releases is due where they ask for that
pub record LeaksPut (words : List (List ℕ)) (left rest : Option (List ℕ)) (Put : List ℕ → Type 0) : Type 0 where
  pub command : AreWordsOf words command.Leaks
  pub put : LeftPut left rest Put

-- the text of a command was put: a report, a summary, a listing, a log, what one never releases or what a report is
-- found to be, each with its command
abbrev pub ResultPut : List (List ℕ) → Option (List ℕ) → Option (List ℕ) → (List ℕ → Type 0) → Type 0
ResultPut words left rest Put = ReportPut words left rest Put ⊎ SummaryPut words left rest Put
    ⊎ ListingPut words left rest Put ⊎ LogPut words left rest Put ⊎ LeaksPut words left rest Put
    ⊎ CheckPut words left rest Put

-- one of these texts was put
abbrev pub TextPut : List (List ℕ) → Option (List ℕ) → Option (List ℕ) → (List ℕ → Type 0) → Type 0
TextPut words left rest Put = UsagePut words Put ⊎ RefusalPut words left rest Put ⊎ ResultPut words left rest Put

-- some cycles' lines were put, or a beginning of them
pub record LinesPut (held after : Option (List ℕ)) : Type 0 where
  pub cycles : List Listed
  pub part : AppendsPart held after (cycles_text cycles)

-- what stands at the sink where memory was wanting: nothing was put; but for a listing, which is written while the
-- script runs
pub record LacksMemory (words : List (List ℕ)) (held after : Option (List ℕ)) : Type 0 where
  pub kept : (AreWordsOf words command.Compare → ⊥) → Keeps held after
  pub lines : AreWordsOf words command.Compare → LinesPut held after

-- the words ask for a script to be read, the source has a script's text, and neither count of faults rose
pub record MayRun (words : List (List ℕ)) (left : Option (List ℕ))
    (read_before read_now write_before write_now : ℕ) : Type 0 where
  pub command : ReadsScript words
  pub script : List (Thread × Act)
  pub input : List ℕ
  pub gives : left ≡ Some input
  pub text : IsText input script
  pub read : Rose read_before read_now → ⊥
  pub written : Rose write_before write_now → ⊥

-- the words ask for a log to be read, the source has a log's text within the limit, and neither count of faults rose
pub record MayJudge (words : List (List ℕ)) (left : Option (List ℕ))
    (read_before read_now write_before write_now : ℕ) : Type 0 where
  pub command : AreWordsOf words command.Leaks
  pub lines : List LogLine
  pub input : List ℕ
  pub gives : left ≡ Some input
  pub text : IsLogText input lines
  pub short : length input ≤ MOST_BYTES
  pub read : Rose read_before read_now → ⊥
  pub written : Rose write_before write_now → ⊥

-- the source has what the words ask for
abbrev pub MayAnswer : List (List ℕ) → Option (List ℕ) → ℕ → ℕ → ℕ → ℕ → Type 0
MayAnswer words left read_before read_now write_before write_now = MayRun words left read_before
    read_now write_before write_now ⊎ MayJudge words left read_before read_now write_before write_now
    ⊎ MayCheck words left read_before read_now write_before write_now

-- the words ask for a script to be made, and the sink's count of faults didn't rise
pub record MayGenerate (words : List (List ℕ)) (write_before write_now : ℕ) : Type 0 where
  pub seed : ℕ
  pub size : ℕ
  pub asked : Mode
  pub command : AreWordsOf words (command.Generate seed size asked)
  pub written : Rose write_before write_now → ⊥
