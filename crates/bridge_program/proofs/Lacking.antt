-- What stands at the sink where memory was wanting: nothing, or lines of a listing.
use Rattle.std.proofs.Common.{ℕ, List, [], Option, Some, None, refl, sym, append-nil, ◌∙◌}
use Rattle.std.specs.Io.KnownBytes.{Appends, Keeps}
use Rattle.command_words.specs.declared.commands.Command.TheVariants as command
use Rattle.command_words.specs.Commands.{AreWordsOf}
use Rattle.bridge_program.specs.Top.{LacksMemory, LinesPut}

keeps-none : (a b : Option (List ℕ)) → Keeps a b → Appends a b []
keeps-none None b k = tt
keeps-none (Some s) None k = absurd k
keeps-none (Some s) (Some t) k = k ∙ sym (append-nil s)

-- nothing was put, whatever was asked for
pub lacks_all : (words : List (List ℕ)) (held after : Option (List ℕ)) → Keeps held after → LacksMemory words held after
lacks_all words held after k = record { kept = λ n. k; lines = λ c. record { cycles = []; part = record { part = []; rest = []; whole = refl; appends = keeps-none held after k } } }

-- lines may have been put where a listing was asked for
pub lacks_lines : (words : List (List ℕ)) (held after : Option (List ℕ)) → AreWordsOf words command.Compare → LinesPut held after → LacksMemory words held after
lacks_lines words held after c l = record { kept = λ n. absurd (n c); lines = λ w. l }

-- what is the same is kept
pub keeps_self : (a : Option (List ℕ)) → Keeps a a
keeps_self None = tt
keeps_self (Some s) = refl
