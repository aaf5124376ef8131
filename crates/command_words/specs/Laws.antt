-- That words give at most one command.
use Rattle.std.specs.Prelude.{◌≡◌, ℕ, List}
use Rattle.command_words.specs.declared.commands.Command.{Command}
use Rattle.command_words.specs.Commands.{AreWordsOf}

-- words give at most one command
abbrev pub WordsTellCommands : Type 0
WordsTellCommands = (words : List (List ℕ)) (c d : Command) → AreWordsOf words c → AreWordsOf words d → c ≡ d
