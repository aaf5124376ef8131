-- What a reader sees of a source and a writer of a sink: bytes, where they are told, and a count of faults.
use Rattle.std.specs.Prelude.{ℕ, ◌+◌, ◌-◌, ◌^◌, min, List, Option, Result, OnOk, OnErr}
use Rattle.std.specs.Io.KnownBytes.{Appends}
use Rattle.byte_streams.specs.Faults.{AppendsPart, HasCause}

-- the whole text was appended; or the sink's count of faults rose, and a beginning was
pub record Writes {E : Type 0} (old new : Option (List ℕ)) (before now : ℕ)
    (result : Result (Unit {0}) E) (text : List ℕ) : Type 0 where
  pub whole : OnOk result (Appends old new text)
  pub part : OnErr result (AppendsPart old new text)
  pub cause : HasCause before now result

-- what contracts see of a source in memory: the bytes that are left, the count of faults, the number of
-- calls so far, and the numbers of the calls that fail
pub record MemorySource : Type 0 where
  pub left : List ℕ
  pub faults : ℕ
  pub calls : ℕ
  pub fails : List ℕ

-- what contracts see of a sink in memory: the bytes that it holds, the most that it takes in one call, the
-- count of faults, the number of calls so far, and the numbers of the calls that fail
pub record MemorySink : Type 0 where
  pub held : List ℕ
  pub most : ℕ
  pub faults : ℕ
  pub calls : ℕ
  pub fails : List ℕ

-- a counter after one more, which stays at the end of its type
abbrev pub next_count : ℕ → ℕ
next_count n = min (n + 1) (2 ^ 64 - 1)
