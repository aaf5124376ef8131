-- What is put of a report that a source gives: its finding, or the line that names what is wrong. `Put` says what was
-- done with the text that is due: all of it was appended to what the sink held, or a beginning.
-- Believed: the clauses of the program's top call rest on all that stands here.
use Rattle.std.specs.Prelude.{◌≡◌, ℕ, List, Option}
use Rattle.bridge_script.specs.declared.faults.Cause.TheVariants.{Bytes}
use Rattle.bridge_script.specs.Causes.{fault_text}
use Rattle.limited_reports.specs.declared.limits.TakeError.{TakeError}
use Rattle.limited_reports.specs.declared.limits.TakeError.TheVariants.{OutOfMemory, ReadFault, Refused, Long}
use Rattle.limited_reports.specs.Limits.{TookWrong}
use Rattle.report_answers.specs.Answers.{finding_text, refusal_text}
use Rattle.judged_reports.specs.declared.judging.Judged.{Judged}
use Rattle.judged_reports.specs.Judging.{JudgedReport}

-- the source was read to its end, and the text is what the history of the report was found to be
pub record FindingPut (most : ℕ) (left rest : Option (List ℕ)) (Put : List ℕ → Type 0) : Type 0 where
  pub judged : Judged
  pub report : JudgedReport most left rest judged
  pub text : Put (finding_text judged.count judged.finding)

-- the text is the line that names the first line that is wrong, with its cause, or the line that holds the first byte
-- behind the limit
abbrev pub IsRefusalText : TakeError → List ℕ → Type 0
IsRefusalText OutOfMemory text = ⊥
IsRefusalText ReadFault text = ⊥
IsRefusalText (Refused fault) text = text ≡ refusal_text fault
IsRefusalText (Long line) text = text ≡ fault_text (record { line = line; cause = Bytes })

-- so of an error
pub record RefusalOf (error : TakeError) (Put : List ℕ → Type 0) : Type 0 where
  pub answer : List ℕ
  pub names : IsRefusalText error answer
  pub text : Put answer

-- the source was read to its end or up to one byte past the limit, and a refusal of what was taken was put
pub record RefusalPut (most : ℕ) (left rest : Option (List ℕ)) (Put : List ℕ → Type 0) : Type 0 where
  pub error : TakeError
  pub took : TookWrong most left rest error
  pub refusal : RefusalOf error Put
