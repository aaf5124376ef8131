-- What the calls of this crate answer.
use Rattle.std.specs.Prelude.{ℕ, ◌≤◌, List, Option, length}
use Rattle.std.specs.Io.KnownBytes.{Consumes, IsAtEnd}
use Rattle.joint_machine.specs.Histories.{Finished}
use Rattle.byte_streams.specs.Faults.{Rose}
use Rattle.report_reader.specs.Reading.{IsReadAs}
use Rattle.limited_reports.specs.declared.limits.TakeError.{TakeError}
use Rattle.limited_reports.specs.declared.limits.TakeError.TheVariants.{OutOfMemory, ReadFault, Refused, Long}
use Rattle.limited_reports.specs.Limits.{IsFaultBefore, IsLongLine, TookWrong}

-- what is answered of a text that is longer than the limit
abbrev pub IsLongRefusal : ℕ → List ℕ → TakeError → Type 0
IsLongRefusal most bytes OutOfMemory = Unit {0}
IsLongRefusal most bytes ReadFault = ⊥
IsLongRefusal most bytes (Refused fault) = IsFaultBefore most bytes fault
IsLongRefusal most bytes (Long line) = IsLongLine most bytes line

-- the source was read to its end, and what was taken is within the limit and is read as the history
pub record TookReport (most : ℕ) (left rest : Option (List ℕ)) (h : Finished) : Type 0 where
  pub input : List ℕ
  pub taken : Consumes left rest input
  pub ended : IsAtEnd rest
  pub size : length input ≤ most
  pub reads : IsReadAs input h

-- why a source gave no report within the limit: no memory, or its count of faults rose, or what it gave is none
abbrev pub TookNone : ℕ → Option (List ℕ) → Option (List ℕ) → ℕ → ℕ → TakeError → Type 0
TookNone most left rest before now OutOfMemory = Unit {0}
TookNone most left rest before now ReadFault = Rose before now
TookNone most left rest before now error = TookWrong most left rest error
