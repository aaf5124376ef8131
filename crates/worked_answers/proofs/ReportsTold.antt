-- An entry's line begins with a digit or a space, and the last line with e: so a line that begins with x is none, and no
-- line stands before it.
use Rattle.std.proofs.Common.{◌≡◌, ℕ, ◌+◌, ◌<◌, ◌++◌, ◌∙◌, List, [], ◌∷◌, length, inl, inr, refl, sym, ap, subst, arith, All, Bool, true, false, decimal, append_assoc}
use Rattle.std.proofs.lemmas.List.Elements.{All-head}
use Rattle.text_words.proofs.Decimals.{IsDigit, decimal-digits}
use Rattle.history_report.specs.Report.{end_text}
use Rattle.report_reader.specs.declared.faults.ReportCause.{ReportCause}
use Rattle.report_reader.specs.declared.faults.ReportCause.TheVariants as cause
use Rattle.report_reader.specs.declared.faults.ReportFault.{ReportFault}
use Rattle.report_reader.specs.Faults.{AreEntryLines, Has, IsEndText, IsEntryText, IsFaultHere, IsReportFault, Placed, StandsFirst, closed_lines, front, front_count}
use Rattle.worked_answers.specs.Logs.{no_line}
use Rattle.worked_answers.specs.Reports.{ReportFaultsAreTold}
use Rattle.worked_answers.proofs.LogsTold.{first, x_whole}

-- what begins with a decimal and a space doesn't begin with x
digits_first : (d r x : List ℕ) → All IsDigit d → first ((d ++ (32 ∷ r)) ++ x) ≡ 120 → ⊥
digits_first [] r x a e = omega (arith, e)
digits_first (c ∷ d) r x a e = let h = All-head IsDigit c d a in let l = h.1 in omega (arith, e, l)

-- so no line of an entry does
not_entry : (n : ℕ) (t : List ℕ) → IsEntryText n t → (x : List ℕ) → first (t ++ x) ≡ 120 → ⊥
not_entry n t l x e = digits_first (decimal l.entry.number) _ x (decimal-digits l.entry.number) (subst (λ t. first (t ++ x) ≡ 120) l.line.same e)

no_entry : IsEntryText 0 (120 ∷ []) → ⊥
no_entry l = not_entry 0 (120 ∷ []) l [] refl

no_end : (n : ℕ) → IsEndText n (120 ∷ []) → ⊥
no_end n l = let e : 120 ≡ 101 = ap first l.1 in omega (arith, e)

-- the text of the first line begins with x
text_first : (l : Placed) (text : List ℕ) → text ≡ l.text → StandsFirst l no_line → first text ≡ 120
text_first l [] e (inl s) = let f : 120 ≡ 10 = ap first (subst (λ t. no_line ≡ t ++ (10 ∷ s.0)) (sym e) s.2) in absurd (omega (arith, f))
text_first l (t ∷ ts) e (inl s) = let f : 120 ≡ t = ap first (subst (λ t. no_line ≡ t ++ (10 ∷ s.0)) (sym e) s.2) in sym f
text_first l text e (inr s) = ap first (e ∙ sym s.2)

x_no_end : (text : List ℕ) (n : ℕ) → first text ≡ 120 → IsEndText n text → ⊥
x_no_end [] n f l = omega (arith, f)
x_no_end (t ∷ ts) n f l = let e : t ≡ 101 = ap first l.1 in omega (arith, e, f)

cause_is : (l : Placed) (c : ReportCause) → l.ended ≡ false → first l.text ≡ 120 → Has l c → c ≡ cause.Form
cause_is l cause.Form e f h = refl
cause_is l cause.Ending e f (inl ended) = absurd cc
cause_is l cause.Ending e f (inr h) = absurd (x_no_end l.text h.1.0 f h.1.1)

-- no entry's line and no last line stands before x
no_front : (t : List ℕ) (ts : List (List ℕ)) (ended : Bool) (behind : List ℕ) → IsEntryText 0 t → no_line ≡ front (t ∷ ts) ended ++ behind → ⊥
no_front t ts false behind l e = not_entry 0 t l _ (ap first (sym (e ∙ append_assoc t (10 ∷ closed_lines ts) behind)))
no_front t ts true behind l e =
    let end = end_text (length (t ∷ ts)) in
    not_entry 0 t l _ (ap first (sym (e ∙ (append_assoc (t ++ (10 ∷ closed_lines ts)) end behind ∙ append_assoc t (10 ∷ closed_lines ts) (end ++ behind)))))

found_by : (texts : List (List ℕ)) (ended : Bool) (behind : List ℕ) (fault : ReportFault) → AreEntryLines 0 texts → no_line ≡ front texts ended ++ behind
    → IsFaultHere (front_count texts ended) ended behind fault → (fault.line ≡ 1) × (fault.cause ≡ cause.Form)
found_by [] false behind fault a e f =
    let s = subst (λ b. StandsFirst f.here b) (sym e) f.stands in
    (f.number, cause_is f.here fault.cause f.last (text_first f.here f.here.text refl s) f.has)
found_by [] true behind fault a e f = let g : 120 ≡ 101 = ap first e in absurd (omega (arith, g))
found_by (t ∷ ts) ended behind fault a e f = absurd (no_front t ts ended behind a.0 e)

lacks_by : (texts : List (List ℕ)) → AreEntryLines 0 texts → no_line ≡ closed_lines texts → ⊥
lacks_by [] a e = cc
lacks_by (t ∷ ts) a e = not_entry 0 t a.0 _ (ap first (sym e))

alone : (fault : ReportFault) → IsReportFault no_line fault → (fault.line ≡ 1) × (fault.cause ≡ cause.Form)
alone fault (inl w) = found_by w.texts w.ended w.behind fault w.lines w.cut w.found
alone fault (inr k) = absurd (lacks_by k.texts k.lines k.all)

-- before nothing stands nothing
none_closed : (t x y : List ℕ) → [] ≡ (t ++ (10 ∷ x)) ++ y → ⊥
none_closed [] x y e = cc
none_closed (c ∷ t) x y e = cc

none_ended : (t x y z : List ℕ) → [] ≡ ((t ++ (10 ∷ x)) ++ y) ++ z → ⊥
none_ended [] x y z e = cc
none_ended (c ∷ t) x y z e = cc

none_stands : (l : Placed) (text : List ℕ) → text ≡ l.text → StandsFirst l [] → ⊥
none_stands l [] e (inl s) = let f : [] ≡ 10 ∷ s.0 = subst (λ t. [] ≡ t ++ (10 ∷ s.0)) (sym e) s.2 in cc
none_stands l (t ∷ ts) e (inl s) = let f : [] ≡ t ∷ (ts ++ (10 ∷ s.0)) = subst (λ t. [] ≡ t ++ (10 ∷ s.0)) (sym e) s.2 in cc
none_stands l text e (inr s) = let f : 0 < 0 = subst (λ t. 0 < length t) (sym s.2) s.1 in omega (arith, f)

none_found : (texts : List (List ℕ)) (ended : Bool) (behind : List ℕ) (fault : ReportFault) → [] ≡ front texts ended ++ behind → IsFaultHere (front_count texts ended) ended behind fault → ⊥
none_found [] false behind fault e f = none_stands f.here f.here.text refl (subst (λ b. StandsFirst f.here b) (sym e) f.stands)
none_found [] true behind fault e f = cc
none_found (t ∷ ts) false behind fault e f = none_closed t _ behind e
none_found (t ∷ ts) true behind fault e f = none_ended t _ _ behind e

none_lacks : (texts : List (List ℕ)) (line : ℕ) → [] ≡ closed_lines texts → line ≡ length texts + 1 → line ≡ 1
none_lacks [] line e n = n
none_lacks ([] ∷ ts) line e n = absurd cc
none_lacks ((c ∷ t) ∷ ts) line e n = absurd cc

alone_missing : (fault : ReportFault) → IsReportFault [] fault → (fault.line ≡ 1) × (fault.cause ≡ cause.Ending)
alone_missing fault (inl w) = absurd (none_found w.texts w.ended w.behind fault w.cut w.found)
alone_missing fault (inr k) = (none_lacks k.texts fault.line k.all k.number, k.cause)

pub report_faults_are_told : ReportFaultsAreTold
report_faults_are_told = record {
  found = inl record {
    texts = [];
    lines = tt;
    ended = false;
    behind = no_line;
    cut = refl;
    found = record {
      here = record { text = 120 ∷ []; closed = true; before = 0; ended = false };
      count = refl;
      last = refl;
      whole = x_whole;
      stands = inl ([], refl, refl);
      number = refl;
      has = (refl, inr (no_entry, no_end));
    };
  };
  alone = alone;
  missing = inr record { texts = []; lines = tt; all = refl; number = refl; cause = refl };
  alone_missing = alone_missing;
}
