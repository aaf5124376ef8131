-- Why a source gave no bytes.
use Rattle.std.specs.Prelude.{ℕ}
use Rattle.byte_streams.specs.Faults.{Rose}
use Rattle.byte_streams.specs.declared.reading.ReadError.{ReadError}
use Rattle.byte_streams.specs.declared.reading.ReadError.TheVariants.{OutOfMemory, Failed}

-- why a source gave no bytes: no memory, or its count of faults rose
abbrev pub IsReadError : ℕ → ℕ → ReadError → Type 0
IsReadError before now OutOfMemory = Unit {0}
IsReadError before now Failed = Rose before now
