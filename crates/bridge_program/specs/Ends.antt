-- What the whole program promises: how it ends, by the arguments that it was given.
-- Believed: the clauses of the program's top call rest on all that stands here.
use Rattle.std.specs.Prelude.{◌≡◌, ◌⊎◌, ◌≤◌, ℕ, List, Option}
use Rattle.std.specs.Io.KnownBytes.{Appends, Keeps}
use Rattle.byte_streams.specs.Faults.{AppendsPart, Rose}
use Rattle.bridge_program.specs.Top.{IsCommand, LacksMemory, MayAnswer, MayGenerate, ReadsInput, RefusalPut, ResultPut}
use Rattle.bridge_program.specs.Top.{TextPut, UsagePut}

-- how the program ends that was asked by these words: with the status, the bytes and the counts of faults that
-- `bridge_main` promises; only that memory may be wanting before the words are judged
pub record Ends (words : List (List ℕ)) (left rest : Option (List ℕ)) (read_before read_now : ℕ)
    (held after : Option (List ℕ)) (write_before write_now status : ℕ) : Type 0 where
  pub printed : status ≡ 0 → ResultPut words left rest (Appends held after)
  pub usage : status ≡ 1 → UsagePut words (Appends held after)
  pub no_command : (IsCommand words → ⊥) → (status ≡ 1) ⊎ (status ≡ 4) ⊎ (status ≡ 5)
  pub untouched : (ReadsInput words → ⊥) → (rest ≡ left) × (read_now ≡ read_before)
  pub read : status ≡ 2 → Rose read_before read_now × Keeps held after
  pub refused : status ≡ 3 → RefusalPut words left rest (Appends held after)
  pub write : status ≡ 4 → Rose write_before write_now
  pub part : status ≡ 4 → TextPut words left rest (AppendsPart held after)
  pub memory : status ≡ 5 → LacksMemory words held after
  pub complete : MayAnswer words left read_before read_now write_before write_now → (status ≡ 0) ⊎ (status ≡ 5)
  pub generated : MayGenerate words write_before write_now → (status ≡ 0) ⊎ (status ≡ 5)
  pub known : status ≤ 5
