-- Words with what they ask for, each with what it reads, when it has to be answered, and what stands at the sink where
-- memory is wanting.
use Rattle.std.specs.Prelude.{ℕ, List, [], ◌∷◌, Some, codes, decimal}
use Rattle.joint_machine.specs.Histories.{Finished}
use Rattle.log_text.specs.Text.{log_text}
use Rattle.history_report.specs.Report.{report}
use Rattle.command_words.specs.declared.commands.Mode.TheVariants as mode
use Rattle.command_words.specs.declared.commands.Command.TheVariants as command
use Rattle.command_words.specs.Commands.{AreWordsOf}
use Rattle.bridge_program.specs.Checks.{MayCheck}
use Rattle.bridge_program.specs.Top.{IsCommand, LacksMemory, MayAnswer, MayGenerate, MayJudge, MayRun, ReadsInput}

-- one word
abbrev pub serial : List (List ℕ)
serial = codes "serial" ∷ []

abbrev pub compares : List (List ℕ)
compares = codes "compare" ∷ []

abbrev pub leaks : List (List ℕ)
leaks = codes "leaks" ∷ []

abbrev pub checks : List (List ℕ)
checks = codes "check" ∷ []

abbrev pub nonsense : List (List ℕ)
nonsense = codes "x" ∷ []

-- the words that ask for a script of seed 1 and that size
abbrev pub makes : ℕ → List (List ℕ)
makes n = codes "gen" ∷ codes "--seed" ∷ decimal 1 ∷ codes "--size" ∷ decimal n ∷ codes "--mode" ∷ codes "serial" ∷ []

-- a script of one line
abbrev pub one_line : List ℕ
one_line = codes "c cycle\n"

-- a history without entries
abbrev pub no_history : Finished
no_history = record { entries = []; freed_managed = []; freed_peers = []; notices = [] }

-- what a command reads, and when it has to be answered
pub record CommandsAreTold : Type 0 where
  pub none : IsCommand nonsense → ⊥
  pub large : AreWordsOf (makes 2801) (command.Generate 1 2801 mode.Serial) → ⊥
  pub reads : ReadsInput serial
  pub reads_none : ReadsInput (makes 2) → ⊥
  pub runs : MayRun serial (Some one_line) 0 0 0 0
  pub judges : MayJudge leaks (Some (log_text [])) 0 0 0 0
  pub checked : MayCheck checks (Some (report no_history)) 0 0 0 0
  pub made : MayGenerate (makes 2) 0 0
  pub unread : MayAnswer serial (Some one_line) 0 1 0 0 → ⊥
  pub unwritten : MayAnswer serial (Some one_line) 0 0 0 1 → ⊥
  pub unmade : MayGenerate (makes 2) 0 1 → ⊥

-- where memory is wanting nothing was written, but the beginning of a listing
pub record WantsAreTold : Type 0 where
  pub kept : LacksMemory serial (Some []) (Some [])
  pub wrote : LacksMemory serial (Some []) (Some (120 ∷ [])) → ⊥
  pub listing : LacksMemory compares (Some []) (Some (codes "cyc"))
  pub other : LacksMemory compares (Some []) (Some (codes "x")) → ⊥
