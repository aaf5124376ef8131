-- The lines that were read so far, one after another, and what is left.
use Rattle.std.proofs.Common.{◌≡◌, ℕ, ◌+◌, ◌<◌, ◌≤◌, inl, inr, true, false, List, [], ◌∷◌, ◌++◌, length, refl, sym, ap, ◌∙◌, subst, arith, append_assoc, append-nil, length-append}
use Rattle.joint_machine.specs.declared.events.Entry.{Entry}
use Rattle.history_report.specs.Report.{end_text, entries_text}
use Rattle.entry_reader.specs.Meaning.{Lists}
use Rattle.entry_reader.specs.Tailing.{ReadsEntry}
use Rattle.report_reader.specs.declared.faults.ReportError.{ReportError}
use Rattle.report_reader.specs.declared.faults.ReportError.TheVariants as error
use Rattle.report_reader.specs.Reading.{IsReadAs}
use Rattle.report_reader.specs.Faults.{IsFaultHere, IsReportFault, closed_lines}
use Rattle.report_reader.specs.Answers.{IsReportRefusal}
use Rattle.report_reader.specs.Steps.{AreRead, GoesFrom, GoesTo, IsEndError, Read, ReadsLine, ReadsLines, history_of, no_lists}
use Rattle.report_reader.proofs.Canonical.{canonical_of}
use Rattle.report_reader.proofs.Judging.{no_report}
use Rattle.report_reader.proofs.Lines.{entry_lines, lines_push}
use Rattle.report_reader.proofs.Sizes.{few_by}

-- nothing yet
pub nothing_read : (r : Read) → r ≡ record { entries = []; lists = no_lists } → AreRead [] r
nothing_read r e = subst (λ z. AreRead [] z) (sym e) (refl, refl)

pub goes_more : (old mid new : Read) (bytes left next : List ℕ) → GoesTo old mid bytes left → ReadsLine mid new left next → GoesTo old new bytes next
goes_more old mid new bytes left next g w = λ front a.
    let r = g front a in
    let number : length mid.entries ≡ 0 + length mid.entries = omega arith in
    let entry = subst (λ n. ReadsEntry w.text n mid.lists new.lists w.entry) number w.reads in
    let line = w.text ++ 10 ∷ [] in
    let lines = lines_push 0 no_lists mid.entries (front ++ r.text) mid.lists w.text new.lists w.entry r.lines entry in
    let whole = subst (λ z. ReadsLines 0 no_lists (mid.entries ++ w.entry ∷ []) z new.lists) (append_assoc front r.text line) lines in
    record {
      text = r.text ++ line;
      cut = r.cut ∙ (ap (λ z. r.text ++ z) (w.cut ∙ sym (append_assoc w.text (10 ∷ []) next)) ∙ sym (append_assoc r.text line next));
      lines = subst (λ (es : List Entry). ReadsLines 0 no_lists es (front ++ (r.text ++ line)) new.lists) (sym w.entries) whole;
    }

-- there are no more entries than bytes of their lines
lines_within : (n : ℕ) (l m : Lists) (es : List Entry) (text : List ℕ) → ReadsLines n l es text m → length es ≤ length text
lines_within n l m [] text r = omega arith
lines_within n l m (x ∷ es) text r =
    let rest = lines_within (n + 1) r.2 m es r.1 r.5 in
    let size = ap length r.3 in
    let parts = length-append r.0 (10 ∷ r.1) in
    omega (arith, rest, size, parts)

pub read_within : (text : List ℕ) (r : Read) → AreRead text r → length r.entries ≤ length text
read_within text r a = lines_within 0 no_lists r.lists r.entries text a

-- a line takes at least its newline
pub line_takes : (old new : Read) (bytes left : List ℕ) → ReadsLine old new bytes left → (length new.entries ≡ length old.entries + 1) × (length left + 1 ≤ length bytes)
line_takes old new bytes left w =
    let a = ap length w.entries in
    let b = length-append old.entries (w.entry ∷ []) in
    let c = ap length w.cut in
    let d = length-append w.text (10 ∷ left) in
    (omega (arith, a, b), omega (arith, c, d))

-- the whole text, where its first lines were read before
whole_cut : (front bytes left : List ℕ) (new : Read) (g : GoesFrom front new bytes left) → front ++ bytes ≡ (front ++ g.text) ++ left
whole_cut front bytes left new g = ap (λ z. front ++ z) g.cut ∙ sym (append_assoc front g.text left)

pub end_refused : (front bytes left : List ℕ) (new : Read) (e : ReportError) → length front + length bytes < 4294967295
    → GoesFrom front new bytes left → IsEndError (length new.entries) left e → IsReportRefusal (front ++ bytes) e
end_refused front bytes left new error.OutOfMemory few g f = tt
end_refused front bytes left new (error.Refused fault) few g f =
    let k = entry_lines 0 no_lists new.entries (front ++ g.text) new.lists g.lines in
    let cut : front ++ bytes ≡ closed_lines k.texts ++ left = whole_cut front bytes left new g ∙ ap (λ z. z ++ left) k.whole in
    let fault_is : IsReportFault (front ++ bytes) fault = elim f [
      | inl a ↦ inr record {
        texts = k.texts;
        lines = k.lines;
        all = cut
            ∙ (ap (λ z. closed_lines k.texts ++ z) a.none ∙ append-nil (closed_lines k.texts));
        number = a.number ∙ ap (λ n. n + 1) (sym k.count);
        cause = a.cause;
      }
      | inr b ↦ elim b [
        | inl h ↦ inl record { texts = k.texts; lines = k.lines; ended = false; behind = left; cut = cut; found = subst (λ n. IsFaultHere n false left fault) (sym k.count) h }
        | inr m ↦ inl record {
          texts = k.texts;
          lines = k.lines;
          ended = true;
          behind = m.more;
          cut = cut ∙ (ap (λ z. closed_lines k.texts ++ z) (m.cut ∙ ap (λ n. end_text n ++ m.more) (sym k.count)) ∙ sym (append_assoc (closed_lines k.texts) (end_text (length k.texts)) m.more));
          found = subst (λ n. IsFaultHere (n + 1) true m.more fault) (sym k.count) m.found;
        }
      ]
    ] in
    (fault_is, no_report (front ++ bytes) fault (let n = length-append front bytes in omega (arith, few, n)) fault_is)

-- the history of the whole
pub whole_text : (front bytes left : List ℕ) (new : Read) → length front + length bytes < 4294967295
    → GoesFrom front new bytes left → left ≡ end_text (length new.entries) → IsReadAs (front ++ bytes) (history_of new)
whole_text front bytes left new few g e =
    let cut = whole_cut front bytes left new g in
    let size = ap length g.cut in
    let parts = length-append g.text left in
    let both = length-append front g.text in
    let lists = few_by new.entries (front ++ g.text) new.lists g.lines (omega (arith, few, size, parts, both)) in
    let k = canonical_of new.entries (front ++ g.text) new.lists g.lines lists in
    record {
      canonical = k.canonical;
      text = cut ∙ (ap (λ z. z ++ left) (sym k.whole) ∙ ap (λ z. entries_text (history_of new) new.entries ++ z) e);
    }
