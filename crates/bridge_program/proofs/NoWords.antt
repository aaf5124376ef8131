-- No words are no command.
use Rattle.std.proofs.Common.{◌≡◌, ⊎_elim, ℕ, List, [], ◌∷◌, subst}
use Rattle.std.specs.Prelude.{Contains, IfErr, Result, Ok, Err, codes}
use Rattle.std.specs.declared.string.String.{String}
use Rattle.std.specs.declared.vec.IntoIter.{IntoIter}
use Rattle.joint_machine.proofs.Members.{Contains-cons_cases, Contains-map_cases, Contains-nil}
use Rattle.command_words.specs.declared.commands.Command.TheVariants as command
use Rattle.command_words.specs.Commands.{generator_words, mode_text}
use Rattle.bridge_program.specs.Top.{IsCommand}
use Rattle.std_streams.specs.Words.{words_told}

no_one : (w : List ℕ) → Contains ((w ∷ []) ∷ []) [] → ⊥
no_one w c = ⊎_elim (λ (e : (w ∷ []) ≡ []). cc) (λ n. Contains-nil [] n) (Contains-cons_cases (w ∷ []) [] [] c)

pub no_words : IsCommand [] → ⊥
no_words (command.Run m, a) = no_one (mode_text m) a.given
no_words (command.Compare, a) = no_one (codes "compare") a.given
no_words (command.References, a) = no_one (codes "grefs") a.given
no_words (command.Leaks, a) = no_one (codes "leaks") a.given
no_words (command.Check, a) = no_one (codes "check") a.given
no_words (command.Generate seed size m, a) = some_word (Contains-map_cases (λ rest. codes "gen" ∷ rest) (generator_words seed size m) [] a.given)
  where
    some_word : (rest : List (List ℕ)) × Contains (generator_words seed size m) rest × ((codes "gen" ∷ rest) ≡ []) → ⊥
    some_word w = let e = w.2 in cc

-- so what follows for words that are no command follows where the arguments aren't text
pub without_text : {A Z E : Type 0} (args : Result (IntoIter (String A) Z) E) (words : List (List ℕ)) (Q : E → Type 0) (R : Type 0)
    → words ≡ words_told args → ((IsCommand words → ⊥) → R) → IfErr args (λ e. Q e → R)
without_text (Ok x) words Q R w f = tt
without_text (Err e) words Q R w f = λ q. f (λ c. no_words (subst IsCommand w c))
