-- What was taken of a report's source, piece by piece, and what is held of it.
use Rattle.std.specs.Prelude.{◌≡◌, ℕ, ◌+◌, ◌-◌, ◌<◌, ◌≤◌, List, ◌++◌, Option, length}
use Rattle.std.specs.Io.KnownBytes.{Consumes, IsAtEnd}
use Rattle.joint_machine.specs.Numbers.{u32_max}
use Rattle.report_reader.specs.Faults.{IsNoReport, IsReportFault}
use Rattle.report_reader.specs.Steps.{AreRead, Read}
use Rattle.limited_reports.specs.declared.limits.TakeError.{TakeError}
use Rattle.limited_reports.specs.declared.limits.TakeError.TheVariants.{OutOfMemory, ReadFault, Refused, Long}

-- these many bytes were taken, the lines that were read of them and what is held behind these; the lines are within the
-- limit
pub record IsTaken (most : ℕ) (left rest : Option (List ℕ)) (read : Read) (held : List ℕ) (count : ℕ) : Type 0 where
  pub front : List ℕ
  pub lines : AreRead front read
  pub taken : Consumes left rest (front ++ held)
  pub size : length front + length held ≡ count
  pub within : length front ≤ most

-- the source was read to its end, within the limit
pub record IsTakenWhole (most : ℕ) (left rest : Option (List ℕ)) (read : Read) (held : List ℕ) : Type 0 where
  pub count : ℕ
  pub taken : IsTaken most left rest read held count
  pub size : count ≤ most
  pub ended : IsAtEnd rest

-- as many bytes were taken as the limit is
pub record IsTakenAll (most : ℕ) (left rest : Option (List ℕ)) (read : Read) (held : List ℕ) : Type 0 where
  pub taken : IsTaken most left rest read held most
  pub few : most < u32_max - 1

-- why all bytes, which are within the limit, are no report
abbrev pub IsNone : List ℕ → TakeError → Type 0
IsNone bytes OutOfMemory = Unit {0}
IsNone bytes ReadFault = ⊥
IsNone bytes (Refused fault) = IsReportFault bytes fault × IsNoReport bytes
IsNone bytes (Long line) = ⊥
