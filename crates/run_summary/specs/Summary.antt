-- The four lines of a summary.
-- Believed: the clauses of the program's top call rest on all that stands here.
use Rattle.std.specs.Prelude.{ℕ, List, ◌++◌, codes, decimal}
use Rattle.command_words.specs.declared.commands.Mode.{Mode}
use Rattle.command_words.specs.Commands.{mode_text}
use Rattle.run_summary.specs.declared.tallies.Objects.{Objects}
use Rattle.run_summary.specs.declared.tallies.Tally.{Tally}

-- ` managed A peers B handles H`, with its newline
abbrev pub objects_text : Objects → List ℕ
objects_text o = codes " managed " ++ decimal o.managed ++ codes
    " peers " ++ decimal o.peers ++ codes " handles " ++ decimal o.handles ++ codes "\n"

-- `seed SEED size SIZE mode MODE`
abbrev pub command_text : ℕ → ℕ → Mode → List ℕ
command_text seed size mode = codes "seed " ++ decimal seed ++ codes
    " size " ++ decimal size ++ codes " mode " ++ mode_text mode ++ codes "\n"

-- `lines L cycles C`, `made ..` and `live ..`
abbrev pub counts_text : ℕ → Tally → List ℕ
counts_text lines t = codes "lines " ++ decimal lines ++ codes " cycles " ++ decimal
    t.cycles ++ codes "\nmade" ++ objects_text t.made ++ codes "live" ++ objects_text t.left

-- the four lines
abbrev pub summary_text : ℕ → ℕ → Mode → ℕ → Tally → List ℕ
summary_text seed size mode lines t = command_text seed size mode ++ counts_text lines t
