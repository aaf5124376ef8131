-- What is answered of a printed report: what its history was found to be, or which of its lines is wrong.
-- Believed: the clauses of the program's top call rest on all that stands here.
use Rattle.std.specs.Prelude.{ℕ, List, ◌++◌, codes, decimal}
use Rattle.check_laws.specs.declared.findings.Finding.{Finding}
use Rattle.check_laws.specs.declared.findings.Finding.TheVariants as finding
use Rattle.check_laws.specs.declared.findings.Why.{Why}
use Rattle.check_laws.specs.declared.findings.Why.TheVariants as why
use Rattle.report_reader.specs.declared.faults.ReportFault.{ReportFault}
use Rattle.report_reader.specs.Causes.{cause_name, cause_number}

-- the word for the first test of an entry that fails
abbrev pub why_text : Why → List ℕ
why_text why.Caller = codes "caller"
why_text why.Cite = codes "cite"
why_text why.Reply = codes "reply"

-- what a history with so many entries was found to be: `legal N`, `illegal I` with that word, or `illegal end`, with
-- its newline
abbrev pub finding_text : ℕ → Finding → List ℕ
finding_text count finding.Legal = codes "legal " ++ decimal count ++ codes "\n"
finding_text count (finding.Illegal i w) = codes "illegal " ++ decimal i ++ codes " " ++ why_text w ++ codes "\n"
finding_text count finding.Unfinished = codes "illegal end\n"

-- the line that names a fault: `line N: cause C NAME`, with its newline
abbrev pub refusal_text : ReportFault → List ℕ
refusal_text f = codes "line " ++ decimal f.line ++ codes ": cause " ++ decimal
    (cause_number f.cause) ++ codes " " ++ cause_name f.cause ++ codes "\n"
