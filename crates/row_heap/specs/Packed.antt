-- An end as one number: objects come first, and temporaries behind them. (This project's own.)
use Rattle.std.specs.Prelude.{ℕ, ◌-◌, ◌≤◌, ◌<◌, nat_le, if◌then◌else◌}
use Rattle.row_heap.specs.declared.references.End.{End}
use Rattle.row_heap.specs.declared.references.End.TheVariants.{Object, Temporary}

-- the end of a number
abbrev pub unpacked : ℕ → End
unpacked n = if nat_le 65536 n then Temporary (n - 65536) else Object n

-- an end that has a number
abbrev pub IsSmall : End → Type 0
IsSmall (Object x) = x ≤ 65535
IsSmall (Temporary t) = t < 4294901760
