-- What the calls of this crate answer, and words of their contracts alone.
use Rattle.std.specs.Prelude.{take, ℕ, List}
use Rattle.joint_machine.specs.Histories.{Finished}
use Rattle.report_reader.specs.Reading.{ends_of, no_ends}
use Rattle.report_reader.specs.declared.faults.ReportError.{ReportError}
use Rattle.report_reader.specs.Faults.{IsNoReport, IsReportFault}
use Rattle.report_reader.specs.declared.faults.ReportError.TheVariants as error

-- the history without what stands in its lists behind the last number that is named, where its spans stand one behind
-- another
abbrev pub as_named : Finished → Finished
as_named h = record {
  entries = h.entries;
  freed_managed = take (ends_of no_ends h.entries).managed h.freed_managed;
  freed_peers = take (ends_of no_ends h.entries).peers h.freed_peers;
  notices = take (ends_of no_ends h.entries).notices h.notices;
}

-- what may be answered in place of a history: no memory, or the first faulty line where the bytes are no report
abbrev pub IsReportRefusal : List ℕ → ReportError → Type 0
IsReportRefusal bytes error.OutOfMemory = Unit {0}
IsReportRefusal bytes (error.Refused fault) = IsReportFault bytes fault × IsNoReport bytes
