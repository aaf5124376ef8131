-- The history that bytes are read as is legal exactly where the bytes are the report of a linked history: such a one is
-- read as itself without the notices that weren't taken, which is linked as it is, and of one text one history is read.
use Rattle.std.specs.Prelude.{◌^◌}
use Rattle.std.proofs.Common.{◌≡◌, ℕ, ◌<◌, List, length, refl, sym, subst}
use Rattle.joint_machine.specs.Histories.{Finished}
use Rattle.joint_machine.specs.LinkedHistories.{IsLinked}
use Rattle.report_reader.specs.Reading.{IsReadAs}
use Rattle.report_reader.specs.Answers.{as_named as as_shown}
use Rattle.report_reader.proofs.Back.{one_history}
use Rattle.report_laws.proofs.Linked.{linked_is_read, named_is_linked}
use Rattle.check_laws.specs.declared.findings.Finding.TheVariants as finding
use Rattle.check_laws.specs.Findings.{IsFinding}
use Rattle.check_laws.proofs.Linking.{legal_linked, linked_runs}
use Rattle.check_laws.proofs.OneFinding.{one_finding}
use Rattle.legal_reports.specs.Legal.{FoundLegalIsReport, LegalIsReport}
use Rattle.legal_reports.specs.Reports.{IsReportOfRun}
use Rattle.legal_reports.proofs.Named.{named_is_same}

-- a legal history that was read is linked
read-linked : (bytes : List ℕ) (h : Finished) → IsReadAs bytes h → IsFinding h finding.Legal → IsLinked h
read-linked bytes h r f = subst IsLinked (named_is_same h r.canonical.just) ((legal_linked h r.canonical.value.history.numbers).0 f)

-- a linked history whose report is read as this one
shown-linked : (bytes : List ℕ) (h : Finished) → length bytes < 2 ^ 32 → IsReadAs bytes h → (w : IsReportOfRun bytes (length h.entries)) → as_shown w.history ≡ h
shown-linked bytes h few r w = one_history bytes (as_shown w.history) h
    (subst (λ z. IsReadAs z (as_shown w.history)) (sym w.text) (linked_is_read w.history w.linked w.value (subst (λ z. length z < 2 ^ 32) w.text few))) r

read-legal : (bytes : List ℕ) (h : Finished) → length bytes < 2 ^ 32 → IsReadAs bytes h → IsReportOfRun bytes (length h.entries) → IsFinding h finding.Legal
read-legal bytes h few r w =
    let shown : IsLinked (as_shown w.history) = record { noted = w.linked.noted; linked = named_is_linked w.history w.linked.noted w.linked.linked } in
    let linked : IsLinked h = subst IsLinked (shown-linked bytes h few r w) shown in
    (legal_linked h r.canonical.value.history.numbers).1 (subst IsLinked (sym (named_is_same h r.canonical.just)) linked)

pub legal_report : LegalIsReport
legal_report bytes h few r = (
  λ f. let l = read-linked bytes h r f in record { history = h; value = r.canonical.value; linked = l; runs = linked_runs h l; counted = refl; text = r.text },
  λ w. read-legal bytes h few r w,
)

pub found_report : FoundLegalIsReport
found_report bytes h f few r w = (
  λ e. (legal_report bytes h few r).0 (subst (IsFinding h) e w),
  λ l. one_finding h f finding.Legal w ((legal_report bytes h few r).1 l),
)
