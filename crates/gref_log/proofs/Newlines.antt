-- How many newlines there are in the text of lines, and which line of a text is wrong by the number of newlines before
-- it.
use Rattle.std.proofs.Common.{◌≡◌, ℕ, ◌+◌, ◌<◌, ◌≤◌, inl, inr, List, [], ◌∷◌, ◌++◌, length, refl, sym, ap, subst, ◌∙◌, arith, append_assoc}
use Rattle.std.specs.Prelude.{IfErr, IfOk, MatchResult, Result, Ok, Err}
use Rattle.log_text.specs.declared.lines.LogCause.{LogCause}
use Rattle.log_text.specs.declared.lines.LogCause.TheVariants as cause
use Rattle.log_text.specs.declared.lines.LogError.{LogError}
use Rattle.log_text.specs.declared.lines.LogError.TheVariants.{OutOfMemory, Refused}
use Rattle.log_text.specs.declared.lines.LogLine.{LogLine}
use Rattle.log_text.specs.Faults.{GoesOn, IsLogFault, IsWrongLine, LacksEnd}
use Rattle.log_text.specs.Taking.{IsLogRefusal}
use Rattle.log_text.specs.Text.{IsLogText, end_text, line_text, lines_text, log_text}
use Rattle.log_text.proofs.LineWords.{end-whole, line-whole}
use Rattle.text_limits.specs.Limits.{AreClosed, IsFrontOf}
use Rattle.text_limits.proofs.ClosedLines.{appended, closed-behind, closed-one, lines_in}
use Rattle.gref_log.specs.Limit.{IsFaultBefore, IsFaultOfLine, IsLongLine}
use Rattle.gref_log.specs.Answers.{IsRefusedBefore}

of-lines : (ls : List LogLine) → lines_in (lines_text ls) ≡ length ls
of-lines [] = refl
of-lines (l ∷ ls) = omega (arith, closed-one (line_text l) (lines_text ls) (line-whole l), of-lines ls)

pub of-log : (ls : List LogLine) → lines_in (log_text ls) ≡ length ls + 1
of-log ls = omega (arith, appended (lines_text ls) (end_text (length ls) ++ 10 ∷ []), of-lines ls, closed-one (end_text (length ls)) [] (end-whole (length ls)))

module _ (front : List ℕ) (closed : AreClosed front) where
  -- a wrong line has its newline
  wrong-within : (number : ℕ) (why : LogCause) → IsWrongLine front number why → number ≤ lines_in front
  wrong-within number why w =
      let many = closed-behind front (lines_text w.before) w.rest closed w.whole w.first.some in
      let all = ap lines_in w.whole ∙ appended (lines_text w.before) w.rest in
      let n = w.number_is in
      omega (arith, many, all, of-lines w.before, n)

  goes-within : (number : ℕ) → GoesOn front number → number ≤ lines_in front
  goes-within number w =
      let end = end_text (length w.before) in
      let here : front ≡ (lines_text w.before ++ (end ++ 10 ∷ [])) ++ w.left = w.whole
      ∙ (ap (λ t. lines_text w.before ++ t) (sym (append_assoc end (10 ∷ []) w.left)) ∙ sym (append_assoc (lines_text w.before) (end ++ 10 ∷ []) w.left)) in
      let many = closed-behind front (log_text w.before) w.left closed here w.more in
      let all = ap lines_in here ∙ appended (log_text w.before) w.left in
      let n = w.number_is in
      omega (arith, many, all, of-log w.before, n)

  lacks-beyond : (number : ℕ) → LacksEnd front number → number ≡ lines_in front + 1
  lacks-beyond number w = (let n = w.number_is in let all = ap lines_in w.whole in omega (arith, n, all, of-lines w.before))

  -- a fault on a line, by its number
  of-line : (number : ℕ) (why : LogCause) → number ≤ lines_in front → IsLogFault front number why → IsFaultOfLine front number why
  of-line number cause.Text l f = f
  of-line number cause.Mark l f = f
  of-line number cause.Count l f = f
  of-line number cause.End l f = elim f [ inl w ↦ inl w | inr g ↦ elim g [ inl w ↦ inr w | inr w ↦ (let e = lacks-beyond number w in absurd (omega (arith, e, l))) ] ]

  -- a fault behind all lines
  lacks : (number : ℕ) (why : LogCause) → lines_in front < number → IsLogFault front number why → LacksEnd front number
  lacks number cause.Text l f = (let w = wrong-within number cause.Text f in absurd (omega (arith, w, l)))
  lacks number cause.Mark l f = (let w = wrong-within number cause.Mark f in absurd (omega (arith, w, l)))
  lacks number cause.Count l f = (let w = wrong-within number cause.Count f in absurd (omega (arith, w, l)))
  lacks number cause.End l f = elim f [
    | inl w ↦ (let b = wrong-within number cause.End w in absurd (omega (arith, b, l)))
    | inr g ↦ elim g [ inl w ↦ (let b = goes-within number w in absurd (omega (arith, b, l))) | inr w ↦ w ]
  ]

module _ (most : ℕ) (bytes front : List ℕ) (cut : IsFrontOf most bytes front) where
  pub whole-before : (count : ℕ) (ls : List LogLine) → count ≡ lines_in front → IsLogText front ls → IsLongLine most bytes (count + 1)
  whole-before count ls c t = (let n = ap lines_in t.text ∙ of-log ls in record { front = front; cut = cut; before = ls; lawful = t.lawful; behind = inr (t.text, omega (arith, c, n)) })

  pub nothing-wrong : (count number : ℕ) (why : LogCause) → count ≡ lines_in front → count < number → IsLogFault front number why → IsLongLine most bytes number
  nothing-wrong count number why c l f = (let w = lacks front cut.closed number why (omega (arith, c, l)) f in
      record { front = front; cut = cut; before = w.before; lawful = w.lawful; behind = inl (w.whole, w.number_is) })

  pub wrong-before : (count number : ℕ) (why : LogCause) → count ≡ lines_in front → number ≤ count → IsLogFault front number why → IsFaultBefore most bytes number why
  wrong-before count number why c l f = record { front = front; cut = cut; fault = of-line front cut.closed number why (omega (arith, c, l)) f }

  -- what is answered where the lines before are refused
  abbrev Within : ℕ → LogError → Result ℕ LogError → Type 0
  Within count error r = MatchResult r (λ number. (why : LogCause) × (error ≡ Refused number why) × (count < number))
      (λ refusal. (refusal ≡ error) × ((number : ℕ) (why : LogCause) → error ≡ Refused number why → number ≤ count))

  pub answered : (count : ℕ) (error : LogError) → count ≡ lines_in front → IsLogRefusal front error → (r : Result ℕ LogError) → Within count error r → IfOk r (λ n. IsLongLine most bytes n)
  answered count error c f (Ok n) w = nothing-wrong count n w.0 c w.2 (subst (IsLogRefusal front) w.1 f).0
  answered count error c f (Err e) w = tt

  refused-by : (count : ℕ) (error : LogError) → count ≡ lines_in front → IsLogRefusal front error
      → ((number : ℕ) (why : LogCause) → error ≡ Refused number why → number ≤ count) → IsRefusedBefore most bytes error
  refused-by count OutOfMemory c f w = tt
  refused-by count (Refused number why) c f w = wrong-before count number why c (w number why refl) f.0

  pub refused : (count : ℕ) (error : LogError) → count ≡ lines_in front → IsLogRefusal front error → (r : Result ℕ LogError) → Within count error r → IfErr r (λ e. IsRefusedBefore most bytes e)
  refused count error c f (Ok n) w = tt
  refused count error c f (Err e) w = subst (IsRefusedBefore most bytes) (sym w.0) (refused-by count error c f w.1)
