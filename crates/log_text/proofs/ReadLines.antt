-- Line after line, what was read is the text of the log so far, and what is left is the rest; where a line is wrong,
-- the bytes are the text of no log.
use Rattle.std.proofs.Common.{◌≡◌, ℕ, ◌+◌, ◌*◌, ◌<◌, ◌≤◌, Bool, true, false, List, [], ◌∷◌, ◌++◌, length, Result, Ok, Err, IfOk, IfErr, MatchResult, refl, sym, ap, subst, ◌∙◌, inl, inr, arith}
use Rattle.std.proofs.Common.{append_assoc, append-nil, length-append}
use Rattle.text_words.specs.Placed.{IsCut, IsFirstLine}
use Rattle.log_text.specs.declared.lines.Mark.{Mark}
use Rattle.log_text.specs.declared.lines.Mark.TheVariants.{GPlus, GMinus, WPlus, WMinus}
use Rattle.log_text.specs.declared.lines.LogLine.{LogLine}
use Rattle.log_text.specs.declared.lines.LogCause.{LogCause}
use Rattle.log_text.specs.declared.lines.LogCause.TheVariants as cause
use Rattle.log_text.specs.declared.lines.LogError.{LogError}
use Rattle.log_text.specs.declared.lines.LogError.TheVariants.{OutOfMemory, Refused}
use Rattle.log_text.specs.Behind.{IsLog}
use Rattle.text_words.specs.Words.{spaced}
use Rattle.log_text.specs.Text.{IsLogText, end_text, line_text, lines_text, log_text, mark_text, number_words}
use Rattle.log_text.specs.Faults.{IsLogFault, IsWrongLine}
use Rattle.log_text.specs.Taking.{EndsBy, Finishes, GrowsBy, Stops, IsLogRefusal}
use Rattle.log_text.proofs.LogTexts.{lines-push}
use Rattle.log_text.proofs.Wrong.{no-log}

mark-size : (m : Mark) → length (mark_text m) ≡ 3
mark-size GPlus = refl
mark-size GMinus = refl
mark-size WPlus = refl
mark-size WMinus = refl

-- a line has two bytes at least, its newline counted
sizes : (ls : List LogLine) → 2 * length ls ≤ length (lines_text ls)
sizes [] = omega arith
sizes (l ∷ ls) = omega (arith, sizes ls, length-append (line_text l) (10 ∷ lines_text ls), mark-size l.mark, length-append (mark_text l.mark) (32 ∷ spaced (number_words l)))

pub room : (bytes left : List ℕ) (ls : List LogLine) → bytes ≡ lines_text ls ++ left → length bytes < 4294967295 → length ls + 2 < 4294967296
room bytes left ls e small = omega (arith, sizes ls, ap length e, length-append (lines_text ls) left)

fault : (bytes : List ℕ) (line : ℕ) (why : LogCause) → IsWrongLine bytes line why → IsLogFault bytes line why
fault bytes line cause.Text w = w
fault bytes line cause.Mark w = w
fault bytes line cause.Count w = w
fault bytes line cause.End w = inl w

-- a closed line and its newline
closed-cut : (rest text left : List ℕ) (closed : Bool) → closed ≡ true → IsCut rest text closed left → rest ≡ text ++ (10 ∷ left)
closed-cut rest text left true e c = c
closed-cut rest text left false e c = absurd (let f : ⊥ = cc in f)

module _ (bytes : List ℕ) (small : length bytes < 4294967295) (ls : List LogLine) (lawful : IsLog ls) (rest : List ℕ) (whole : bytes ≡ lines_text ls ++ rest) where
  -- the log doesn't go on with a line
  pub stopped : (text left : List ℕ) (closed : Bool) (error : LogError) → IsFirstLine rest text closed left → Stops ls text closed error → IsLogRefusal bytes error
  stopped text left closed OutOfMemory first s = tt
  stopped text left closed (Refused line why) first s =
      let f = fault bytes line why (record { before = ls; rest = rest; text = text; closed = closed; left = left; whole = whole; first = first; lawful = lawful; number_is = s.0; has = s.1 }) in
      (f, no-log bytes (omega arith) line why f)

  -- there is no last line
  pub ended : rest ≡ [] → (error : LogError) → error ≡ Refused (length ls + 1) cause.End → IsLogRefusal bytes error
  ended none error e =
      let f : IsLogFault bytes (length ls + 1) cause.End = inr (inr
      (record { before = ls; whole = whole ∙ (ap (λ t. lines_text ls ++ t) none ∙ append-nil (lines_text ls)); lawful = lawful; number_is = refl })) in
      subst (IsLogRefusal bytes) (sym e) (f, no-log bytes (omega arith) (length ls + 1) cause.End f)

  module _ (text left : List ℕ) (closed : Bool) (first : IsFirstLine rest text closed left) (c : closed ≡ true) where
    cut : rest ≡ text ++ (10 ∷ left)
    cut = closed-cut rest text left closed c first.cut

    -- the log goes on with it
    pub grew : (new : List LogLine) → GrowsBy ls new text → bytes ≡ lines_text new ++ left
    grew new g =
        let line : text ++ (10 ∷ left) ≡ (line_text g.line ++ 10 ∷ []) ++ left = ap (λ t. t ++ (10 ∷ left)) (sym g.same) ∙ sym (append_assoc (line_text g.line) (10 ∷ []) left) in
        whole ∙ (ap (λ t. lines_text ls ++ t) (cut ∙ line) ∙ (sym (append_assoc (lines_text ls) (line_text g.line ++ 10 ∷ []) left)
        ∙ ap (λ t. t ++ left) (sym (lines-push ls g.line) ∙ ap lines_text (sym g.grown))))

    -- it ends there
    last-whole : (new : List LogLine) → EndsBy ls new text → bytes ≡ lines_text new ++ (end_text (length new) ++ (10 ∷ left))
    last-whole new g = subst (λ k. bytes ≡ lines_text k ++ (end_text (length k) ++ (10 ∷ left))) (sym g.kept) (whole ∙ ap (λ t. lines_text ls ++ t) (cut ∙ ap (λ t. t ++ (10 ∷ left)) (sym g.same)))

    pub finished : (new : List LogLine) (r : Result (List LogLine) LogError) → EndsBy ls new text → IsLog new
        → MatchResult r (λ log. (log ≡ new) × (left ≡ [])) (λ e. Finishes new left e) → IfOk r (λ log. IsLogText bytes log)
    finished new (Ok log) g a e = record {
      text = subst (λ k. bytes ≡ log_text k) (sym e.0) (last-whole new g ∙ ap (λ t. lines_text new ++ (end_text (length new) ++ (10 ∷ t))) e.1);
      lawful = subst IsLog (sym e.0) a;
    }
    finished new (Err e) g a h = tt

    refused : (new : List LogLine) (error : LogError) → EndsBy ls new text → IsLog new → Finishes new left error → IsLogRefusal bytes error
    refused new OutOfMemory g a f = absurd f
    refused new (Refused line cause.End) g a f =
        let w : IsLogFault bytes line cause.End = inr (inl (record { before = new; left = left; whole = last-whole new g; more = f.1; lawful = a; number_is = f.0 })) in
        (w, no-log bytes (omega arith) line cause.End w)
    refused new (Refused line why) g a f = absurd f

    pub not-finished : (new : List LogLine) (r : Result (List LogLine) LogError) → EndsBy ls new text → IsLog new
        → MatchResult r (λ log. (log ≡ new) × (left ≡ [])) (λ e. Finishes new left e) → IfErr r (λ e. IsLogRefusal bytes e)
    not-finished new (Ok log) g a h = tt
    not-finished new (Err e) g a h = refused new e g a h
