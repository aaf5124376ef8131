-- What is written piece by piece: a sink holds a beginning of it, and what is pending is the rest.
use Rattle.std.specs.Prelude.{◌≡◌, ℕ, List, ◌++◌, Option, Result, OnOk, OnErr}
use Rattle.std.specs.Io.KnownBytes.{Appends}
use Rattle.byte_streams.specs.Faults.{AppendsPart, HasCause}

-- of what was pending and a text behind it, a beginning went to the sink, and the rest is pending now
pub record BuffersText (old new : Option (List ℕ)) (pending left : List ℕ) (text : List ℕ) : Type 0 where
  pub sent : List ℕ
  pub appends : Appends old new sent
  pub whole : pending ++ text ≡ sent ++ left

-- the same; or the sink's count of faults rose, and it got a beginning
pub record Sends {E : Type 0} (old new : Option (List ℕ)) (pending left : List ℕ)
    (before now : ℕ) (result : Result (Unit {0}) E) (text : List ℕ) : Type 0 where
  pub whole : OnOk result (BuffersText old new pending left text)
  pub part : OnErr result (AppendsPart old new (pending ++ text))
  pub cause : HasCause before now result
