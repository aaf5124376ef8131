-- What was taken from a source, read and checked is a report that was judged.
use Rattle.std.proofs.Common.{◌≡◌, ℕ, ◌<◌, List, Option, length, sym, subst, arith}
use Rattle.std.specs.Prelude.{◌^◌, ◌↔◌}
use Rattle.joint_machine.specs.Histories.{Finished}
use Rattle.check_laws.specs.declared.findings.Finding.TheVariants as finding
use Rattle.check_laws.specs.Findings.{IsFinding}
use Rattle.limited_reports.specs.Answers.{TookReport}
use Rattle.legal_reports.specs.Legal.{FoundLegalIsReport}
use Rattle.legal_reports.specs.Reports.{IsReportOfRun}
use Rattle.judged_reports.specs.declared.judging.Judged.{Judged}
use Rattle.judged_reports.specs.Judging.{JudgedReport}

pub judged_of : FoundLegalIsReport → (most : ℕ) (left rest : Option (List ℕ)) (h : Finished) (j : Judged) → most < 4294967294
    → TookReport most left rest h → j.count ≡ length h.entries → IsFinding h j.finding → JudgedReport most left rest j
judged_of law most left rest h j few t n f =
    let size = t.size in
    let exact = law t.input h j.finding (omega (arith, few, size)) t.reads f in
    record {
      input = t.input;
      taken = t.taken;
      ended = t.ended;
      size = t.size;
      history = h;
      reads = t.reads;
      found = f;
      counted = n;
      exact = subst (λ k. (j.finding ≡ finding.Legal) ↔ IsReportOfRun t.input k) (sym n) exact;
    }
