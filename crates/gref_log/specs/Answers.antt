-- Why no line is named for its length.
use Rattle.std.specs.Prelude.{ℕ, List}
use Rattle.log_text.specs.declared.lines.LogError.{LogError}
use Rattle.log_text.specs.declared.lines.LogError.TheVariants.{OutOfMemory, Refused}
use Rattle.gref_log.specs.Limit.{IsFaultBefore}

-- why no line is named for its length: no memory, or a line before it is wrong
abbrev pub IsRefusedBefore : ℕ → List ℕ → LogError → Type 0
IsRefusedBefore most bytes OutOfMemory = Unit {0}
IsRefusedBefore most bytes (Refused number why) = IsFaultBefore most bytes number why
