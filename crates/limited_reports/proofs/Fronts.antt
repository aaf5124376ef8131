-- How many newlines there are in the lines of a report, and so which fault is that of a line, where every line has its
-- newline.
use Rattle.std.proofs.Common.{◌≡◌, ◌≢◌, ℕ, ◌+◌, ◌<◌, ◌≤◌, inl, inr, Bool, true, false, List, [], ◌∷◌, ◌++◌, length, All, codes, decimal, refl, sym, ap, subst, ◌∙◌, arith, append_assoc, append-nil}
use Rattle.std.proofs.Common.{length-append}
use Rattle.std.proofs.lemmas.Bool.{cases_lt}
use Rattle.std.proofs.lemmas.List.Elements.{All-from_recursion}
use Rattle.std.proofs.lemmas.List.Sums.{count_by-le-length}
use Rattle.std.specs.Prelude.{drop, nat_eq, take}
use lib.Seq.{take-append-add, drop-append-add}
use Rattle.joint_machine.specs.Histories.{Finished}
use Rattle.text_words.proofs.Cutting.{Lacks}
use Rattle.text_words.proofs.PlainWords.{no-byte, plain-decimal}
use Rattle.text_limits.specs.Limits.{AreClosed, IsFrontOf}
use Rattle.text_limits.proofs.ClosedLines.{appended, closed-behind, closed-one, lines_in}
use Rattle.history_report.specs.Report.{end_text, entries_text}
use Rattle.report_reader.specs.declared.faults.ReportFault.{ReportFault}
use Rattle.report_reader.specs.Faults.{AreEntryLines, IsFaultyLine, IsReportFault, LacksEnd, StandsFirst, Placed, closed_lines, front, front_count}
use Rattle.report_reader.specs.Reading.{IsReadAs}
use Rattle.report_reader.specs.Steps.{AreRead, Read, ReadsLines, no_lists}
use Rattle.entry_reader.specs.Meaning.{Lists}
use Rattle.joint_machine.specs.declared.events.Entry.{Entry}
use Rattle.report_reader.proofs.Back.{read_of}
use Rattle.report_reader.proofs.Canonical.{lists_of}
use Rattle.report_reader.proofs.Lines.{entry_lines}
use Rattle.report_reader.proofs.Reaching.{read_within}
use Rattle.report_reader.proofs.Texts.{text_lacks}
use Rattle.limited_reports.specs.declared.limits.TakeError.{TakeError}
use Rattle.limited_reports.specs.declared.limits.TakeError.TheVariants.{OutOfMemory, ReadFault, Refused, Long}
use Rattle.limited_reports.specs.Limits.{IsFaultBefore, IsLongLine, IsNoneWithin}
use Rattle.limited_reports.specs.Answers.{IsLongRefusal}

all_lack : (text : List ℕ) → Lacks 10 text → All (λ b. b ≢ 10) text
all_lack text l = All-from_recursion (λ (z : ℕ). z ≢ 10) text l

-- each line has one
of-lines : (n : ℕ) (texts : List (List ℕ)) → AreEntryLines n texts → lines_in (closed_lines texts) ≡ length texts
of-lines n [] l = refl
of-lines n (text ∷ texts) l = (let one = closed-one text (closed_lines texts) (all_lack text (text_lacks n text l.0)) in let rest = of-lines (n + 1) texts l.1 in omega (arith, one, rest))

of-end : (n : ℕ) → lines_in (end_text n) ≡ 1
of-end n =
    let both = appended (codes "end ") (decimal n ++ 10 ∷ []) in
    let word : lines_in (codes "end ") ≡ 0 = refl in
    let number = closed-one (decimal n) [] (all_lack (decimal n) (no-byte 10 (omega arith) (decimal n) (plain-decimal n))) in
    let none : lines_in [] ≡ 0 = refl in
    omega (arith, both, word, number, none)

of-front : (texts : List (List ℕ)) (ended : Bool) → AreEntryLines 0 texts → lines_in (front texts ended) ≡ front_count texts ended
of-front texts false l = of-lines 0 texts l
of-front texts true l = (let both = appended (closed_lines texts) (end_text (length texts)) in let lines = of-lines 0 texts l in let end = of-end (length texts) in omega (arith, both, lines, end))

-- the first line of bytes is one of them
stands-some : (l : Placed) (behind : List ℕ) → StandsFirst l behind → 1 ≤ length behind
stands-some l behind (inl s) = (let a = ap length s.2 in let b = length-append l.text (10 ∷ s.0) in omega (arith, a, b))
stands-some l behind (inr s) = (let a = ap length s.2 in let b = s.1 in omega (arith, a, b))

module _ (most : ℕ) (bytes before : List ℕ) (cut : IsFrontOf most bytes before) where
  -- a faulty line has its newline
  faulty-within : (fault : ReportFault) → IsFaultyLine before fault → fault.line ≤ lines_in before
  faulty-within fault w =
      let some = stands-some w.found.here w.behind w.found.stands in
      let many = closed-behind before (front w.texts w.ended) w.behind cut.closed w.cut (λ e. let n = ap length e in omega (arith, n, some)) in
      let all = ap lines_in w.cut ∙ appended (front w.texts w.ended) w.behind in
      let lines = of-front w.texts w.ended w.lines in
      let number = w.found.number in
      omega (arith, many, all, lines, number)

  lacks-beyond : (fault : ReportFault) → LacksEnd before fault → fault.line ≡ lines_in before + 1
  lacks-beyond fault w = (let number = w.number in let all = ap lines_in w.all in let lines = of-lines 0 w.texts w.lines in omega (arith, number, all, lines))

  pub fault-before : (fault : ReportFault) → fault.line ≤ lines_in before → IsReportFault before fault → IsFaultBefore most bytes fault
  fault-before fault l (inl w) = record { before = before; cut = cut; wrong = w }
  fault-before fault l (inr w) = absurd (let beyond = lacks-beyond fault w in omega (arith, beyond, l))

  pub none-wrong : (fault : ReportFault) → lines_in before < fault.line → IsReportFault before fault → IsLongLine most bytes fault.line
  none-wrong fault l (inl w) = absurd (let within = faulty-within fault w in omega (arith, within, l))
  none-wrong fault l (inr w) = record { before = before; cut = cut; texts = w.texts; lines = w.lines; ended = false; same = w.all; number_is = w.number }

  pub whole-before : (h : Finished) (count : ℕ) → count ≡ lines_in before → IsReadAs before h → IsLongLine most bytes (count + 1)
  whole-before h count c r =
      let k = entry_lines 0 no_lists h.entries (entries_text h h.entries) (lists_of h) (read_of h r.canonical) in
      let same : before ≡ front k.texts true = r.text ∙ (ap (λ z. z ++ end_text (length h.entries)) k.whole ∙ ap (λ n. closed_lines k.texts ++ end_text n) (sym k.count)) in
      let lines = ap lines_in same ∙ of-front k.texts true k.lines in
      record { before = before; cut = cut; texts = k.texts; lines = k.lines; ended = true; same = same; number_is = omega (arith, c, lines) }

  pub answered : (fault : ReportFault) (count : ℕ) (result : TakeError) → count ≡ lines_in before → IsReportFault before fault
      → (fault.line ≤ count → result ≡ Refused fault) → (count < fault.line → result ≡ Long fault.line) → IsLongRefusal most bytes result
  answered fault count result c f here behind = elim (cases_lt count fault.line) [
    | inl l ↦ subst (IsLongRefusal most bytes) (sym (behind l)) (none-wrong fault (omega (arith, c, l)) f)
    | inr l ↦ subst (IsLongRefusal most bytes) (sym (here l)) (fault-before fault (omega (arith, c, l)) f)
  ]

-- lines that were read, in front of the lines before a limit
closed_both : (a b : List ℕ) → AreClosed a → AreClosed b → AreClosed (a ++ b)
closed_both a b c (inl e) = subst AreClosed (sym (ap (λ z. a ++ z) e ∙ append-nil a)) c
closed_both a b c (inr (t, e)) = inr (a ++ t, ap (λ z. a ++ z) e ∙ sym (append_assoc a t (10 ∷ [])))

closed_lines_read : (n : ℕ) (l m : Lists) (es : List Entry) (text : List ℕ) → ReadsLines n l es text m → AreClosed text
closed_lines_read n l m [] text r = inl r.0
closed_lines_read n l m (x ∷ es) text r =
    let line : AreClosed (r.0 ++ 10 ∷ []) = inr (r.0, refl) in
    let both = closed_both (r.0 ++ 10 ∷ []) r.1 line (closed_lines_read (n + 1) r.2 m es r.1 r.5) in
    subst AreClosed (append_assoc r.0 (10 ∷ []) r.1 ∙ sym r.3) both

pub front_behind : (most : ℕ) (front bytes before : List ℕ) (read : Read) → AreRead front read → IsFrontOf most bytes before → IsFrontOf (length front + most) (front ++ bytes) (front ++ before)
front_behind most front bytes before read a c =
    let size = length-append front before in
    let fits = c.fits in
    let same : drop (length before) (take most bytes) ≡ drop (length front + length before) (front ++ take most bytes) = sym (drop-append-add front (take most bytes) (length before)) in
    let cut : drop (length front + length before) (front ++ take most bytes) ≡ drop (length front + length before)
    (take (length front + most) (front ++ bytes)) = ap (drop (length front + length before)) (sym (take-append-add front bytes most)) in
    let at : drop (length front + length before) (take (length front + most) (front ++ bytes)) ≡ drop (length (front ++ before))
    (take (length front + most) (front ++ bytes)) = ap (λ n. drop n (take (length front + most) (front ++ bytes))) (sym size) in
    record {
      rest = c.rest;
      whole = ap (λ z. front ++ z) c.whole ∙ sym (append_assoc front before c.rest);
      closed = closed_both front before (closed_lines_read 0 no_lists read.lists read.entries front a) c.closed;
      fits = omega (arith, size, fits);
      line = subst (All (λ b. b ≢ 10)) (same ∙ (cut ∙ at)) c.line;
    }

pub lines_behind : (front before : List ℕ) (read : Read) → AreRead front read → length read.entries + lines_in before ≡ lines_in (front ++ before)
lines_behind front before read a =
    let k = entry_lines 0 no_lists read.entries front read.lists a in
    let lines = of-lines 0 k.texts k.lines in
    let text = ap lines_in k.whole in
    let both = appended front before in
    let count = k.count in
    omega (arith, lines, text, both, count)

pub lines_few : (most : ℕ) (front bytes before : List ℕ) (read : Read) → AreRead front read → IsFrontOf most bytes before → length read.entries + lines_in before ≤ length front + length bytes
lines_few most front bytes before read a c =
    let entries = read_within front read a in
    let lines = count_by-le-length (λ b. nat_eq b 10) before in
    let whole = ap length c.whole in
    let parts = length-append before c.rest in
    omega (arith, entries, lines, whole, parts)

pub front_few : (most : ℕ) (bytes before : List ℕ) → IsFrontOf most bytes before → length before ≤ length bytes
front_few most bytes before c = (let whole = ap length c.whole in let parts = length-append before c.rest in omega (arith, whole, parts))

-- where no line was read before
pub long_alone : (most : ℕ) (bytes : List ℕ) (e : TakeError) → most < length bytes → IsLongRefusal (0 + most) bytes e → IsNoneWithin most bytes e
long_alone most bytes e l w = by e (subst (λ n. IsLongRefusal n bytes e) (let same : 0 + most ≡ most = omega arith in same) w)
  where
    by : (e : TakeError) → IsLongRefusal most bytes e → IsNoneWithin most bytes e
    by OutOfMemory w = tt
    by ReadFault w = absurd w
    by (Refused fault) w = inr (l, w)
    by (Long line) w = (l, w)
