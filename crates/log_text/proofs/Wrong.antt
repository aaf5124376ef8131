-- Bytes with a line that is wrong are the text of no log.
use Rattle.std.proofs.Common.{◌≡◌, ◌≢◌, ℕ, ◌<◌, ◌≤◌, ◌^◌, Bool, true, false, List, [], ◌∷◌, ◌++◌, length, refl, sym, ap, ◌∙◌, subst, inl, inr, arith, append_assoc, append-nil, length-append, All}
use Rattle.std.proofs.lemmas.List.Elements.{All-head, All-tail}
use Rattle.text_words.specs.Placed.{IsFirstLine}
use Rattle.text_words.proofs.Cuts.{cut_once}
use Rattle.log_text.specs.declared.lines.LogLine.{LogLine}
use Rattle.log_text.specs.declared.lines.LogCause.{LogCause}
use Rattle.log_text.specs.declared.lines.LogCause.TheVariants as cause
use Rattle.log_text.specs.Behind.{AreLawful, Behind, HasCounts, IsLawfulLine, MayStand, behind, behind_all, none_live}
use Rattle.log_text.specs.Text.{end_text, line_text, lines_text, log_text}
use Rattle.log_text.specs.Faults.{GoesOn, Has, IsLogFault, IsNoLogText, IsWrongLine, LacksEnd}
use Rattle.log_text.proofs.LineWords.{end-whole, line-end, line-whole, same-end, same-line}
use Rattle.log_text.proofs.LogTexts.{begins, lawful-behind, lawful-fit}

-- a lawful line has no cause where it stands
no-cause-line : (v : Behind) (count : ℕ) (l : LogLine) (c : LogCause) → IsLawfulLine v l → Has v count (line_text l) true c → ⊥
no-cause-line v count l cause.Text w h = elim h [ inl e ↦ (let f : ⊥ = cc in f) | inr n ↦ n.line l w.fits refl ]
no-cause-line v count l cause.Mark w h = h.1.wrong (let e = same-line h.1.line l h.1.fits w.fits h.1.same in subst (λ (k : LogLine). MayStand v k.mark k.h.0 k.p.0) (sym e) w.stands)
no-cause-line v count l cause.Count w h = h.1.wrong (let e = same-line h.1.line l h.1.fits w.fits h.1.same in subst (λ (k : LogLine). HasCounts (behind v k) k) (sym e) w.counts)
no-cause-line v count l cause.End w h = line-end l h.1.number (sym h.1.same)

-- nor has the last line
no-cause-end : (v : Behind) (count : ℕ) (c : LogCause) → count < 2 ^ 64 → Has v count (end_text count) true c → ⊥
no-cause-end v count cause.Text s h = elim h [ inl e ↦ (let f : ⊥ = cc in f) | inr n ↦ n.last count s refl ]
no-cause-end v count cause.Mark s h = line-end h.1.line count h.1.same
no-cause-end v count cause.Count s h = line-end h.1.line count h.1.same
no-cause-end v count cause.End s h = h.1.other (same-end h.1.number count h.1.fits s h.1.same)

-- a text without a newline
no-newline : (line behind text : List ℕ) → All (λ b. b ≢ 10) text → text ≡ line ++ (10 ∷ behind) → ⊥
no-newline [] behind text h q = All-head (λ b. b ≢ 10) 10 behind (subst (All (λ b. b ≢ 10)) q h) refl
no-newline (b ∷ line) behind text h q = no-newline line behind (line ++ (10 ∷ behind)) (All-tail (λ b. b ≢ 10) b (line ++ (10 ∷ behind)) (subst (All (λ b. b ≢ 10)) q h)) refl

-- the first line of bytes that begin with a line and its newline is that line
first-is : (rest text line left behind : List ℕ) (closed : Bool) → IsFirstLine rest text closed left → All (λ b. b ≢ 10) line → rest ≡ line ++ (10 ∷ behind) → (text ≡ line) × (closed ≡ true)
first-is rest text line left behind true f w e = ((cut_once 10 text line left behind f.whole w (sym f.cut ∙ e)).0, refl)
first-is rest text line left behind false f w e = absurd (no-newline line behind text f.whole (sym f.cut.0 ∙ e))

-- a log's text with so many lines has fewer bytes than that
module _ (bytes : List ℕ) (small : length bytes < 2 ^ 64) where
  short-log : (ls : List LogLine) → bytes ≡ log_text ls → length ls < 2 ^ 64
  short-log ls e = omega (arith, small, ap length e, length-append (lines_text ls) (end_text (length ls) ++ 10 ∷ []), many ls)
    where
      many : (ls : List LogLine) → length ls ≤ length (lines_text ls)
      many [] = omega arith
      many (l ∷ ls) = omega (arith, many ls, length-append (line_text l) (10 ∷ lines_text ls))

  wrong-line : (number : ℕ) (c : LogCause) → IsWrongLine bytes number c → IsNoLogText bytes
  wrong-line number c w ls t =
      let g = begins w.before ls w.rest (length ls) [] (lawful-fit none_live w.before w.lawful) (lawful-fit none_live ls t.lawful) (sym w.whole ∙ t.text) in
      by g.more g.whole g.rest
    where
      v : Behind
      v = behind_all none_live w.before

      has : (text : List ℕ) → (w.text ≡ text) × (w.closed ≡ true) → Has v (length w.before) text true c
      has text e = subst (λ b. Has v (length w.before) text b c) e.1 (subst (λ z. Has v (length w.before) z w.closed c) e.0 w.has)

      by : (more : List LogLine) → ls ≡ w.before ++ more → w.rest ≡ lines_text more ++ (end_text (length ls) ++ 10 ∷ []) → ⊥
      by [] e r =
          let same : length ls ≡ length w.before = ap length (e ∙ append-nil w.before) in
          let h = has (end_text (length ls)) (first-is w.rest w.text (end_text (length ls)) w.left [] w.closed w.first (end-whole (length ls)) r) in
          no-cause-end v (length w.before) c (omega (arith, same, short-log ls t.text)) (subst (λ n. Has v (length w.before) (end_text n) true c) same h)
      by (m ∷ more) e r =
          let a = lawful-behind none_live w.before (m ∷ more) (subst (λ k. AreLawful none_live k) e t.lawful) in
          let end = end_text (length ls) ++ 10 ∷ [] in
          no-cause-line v (length w.before) m c a.0 (has (line_text m)
          (first-is w.rest w.text (line_text m) w.left (lines_text more ++ end) w.closed w.first (line-whole m) (r ∙ append_assoc (line_text m) (10 ∷ lines_text more) end)))

  goes-on : (number : ℕ) → GoesOn bytes number → IsNoLogText bytes
  goes-on number w ls t =
      let g = begins w.before ls (end_text (length w.before) ++ (10 ∷ w.left)) (length ls) [] (lawful-fit none_live w.before w.lawful) (lawful-fit none_live ls t.lawful) (sym w.whole ∙ t.text) in
      by g.more g.rest
    where
      by : (more : List LogLine) → end_text (length w.before) ++ (10 ∷ w.left) ≡ lines_text more ++ (end_text (length ls) ++ 10 ∷ []) → ⊥
      by [] r = w.more (cut_once 10 (end_text (length w.before)) (end_text (length ls)) w.left [] (end-whole (length w.before)) (end-whole (length ls)) r).1
      by (m ∷ more) r =
          let end = end_text (length ls) ++ 10 ∷ [] in
          line-end m (length w.before) (sym (cut_once 10 (end_text (length w.before)) (line_text m) w.left (lines_text more ++ end)
          (end-whole (length w.before)) (line-whole m) (r ∙ append_assoc (line_text m) (10 ∷ lines_text more) end)).0)

  lacks-end : (number : ℕ) → LacksEnd bytes number → IsNoLogText bytes
  lacks-end number w ls t =
      let g = begins w.before ls [] (length ls) [] (lawful-fit none_live w.before w.lawful) (lawful-fit none_live ls t.lawful) (append-nil (lines_text w.before) ∙ (sym w.whole ∙ t.text)) in
      let size = ap length g.rest in
      absurd (omega (arith, size, length-append (lines_text g.more) (end_text (length ls) ++ 10 ∷ []), length-append (end_text (length ls)) (10 ∷ [])))

  pub no-log : (number : ℕ) (c : LogCause) → IsLogFault bytes number c → IsNoLogText bytes
  no-log number cause.End f = elim f [ inl w ↦ wrong-line number cause.End w | inr g ↦ elim g [ inl w ↦ goes-on number w | inr w ↦ lacks-end number w ] ]
  no-log number c f = wrong-line number c f
