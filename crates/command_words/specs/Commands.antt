-- Which words of a command line are a command.
-- Believed: the clauses of the program's top call rest on all that stands here.
use Rattle.std.specs.Prelude.{ℕ, ◌<◌, ◌≤◌, ◌^◌, List, [], ◌∷◌, ◌++◌, map, Contains, codes, decimal}
use Rattle.command_words.specs.declared.commands.Mode.{Mode}
use Rattle.command_words.specs.declared.commands.Mode.TheVariants as mode
use Rattle.command_words.specs.declared.commands.Command.{Command}
use Rattle.command_words.specs.declared.commands.Command.TheVariants as command

-- the word of a mode
abbrev pub mode_text : Mode → List ℕ
mode_text mode.Serial = codes "serial"
mode_text mode.Threads = codes "threads"

-- three lists of words behind one another, in each order
abbrev pub in_any_order : List (List ℕ) → List (List ℕ) → List (List ℕ) → List (List (List ℕ))
in_any_order a b c = (a ++ b ++ c) ∷ (a ++ c ++ b) ∷ (b ++ a ++ c) ∷ (b ++ c ++ a) ∷ (c ++ a ++ b) ∷ (c ++ b ++ a) ∷ []

-- the words behind `gen`: a seed, a size and a mode
abbrev pub generator_words : ℕ → ℕ → Mode → List (List (List ℕ))
generator_words seed size m = in_any_order (codes "--seed" ∷ decimal seed ∷ [])
    (codes "--size" ∷ decimal size ∷ []) (codes "--mode" ∷ mode_text m ∷ [])

-- the lists of words by which a command may be given
abbrev pub lists_of : Command → List (List (List ℕ))
lists_of (command.Run m) = (mode_text m ∷ []) ∷ []
lists_of command.Compare = (codes "compare" ∷ []) ∷ []
lists_of command.References = (codes "grefs" ∷ []) ∷ []
lists_of command.Leaks = (codes "leaks" ∷ []) ∷ []
lists_of command.Check = (codes "check" ∷ []) ∷ []
lists_of (command.Generate seed size m) = map (λ rest. codes "gen" ∷ rest) (generator_words seed size m)

-- a seed has at most 64 bits, and a size is at most 2,800
abbrev pub IsAllowed : Command → Type 0
IsAllowed (command.Generate seed size m) = (seed < 2 ^ 64) × (size ≤ 2800)
IsAllowed _ = Unit {0}

-- the words give the command
pub record AreWordsOf (words : List (List ℕ)) (c : Command) : Type 0 where
  pub given : Contains (lists_of c) words
  pub allowed : IsAllowed c
