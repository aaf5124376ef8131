-- Lines of a log that stand at the front of a log's text are its first lines: a line ends at the first newline, and its
-- text tells it.
use Rattle.std.proofs.Common.{◌≡◌, ℕ, ◌+◌, ◌≤◌, List, [], ◌∷◌, ◌++◌, length, refl, sym, ap, ◌∙◌, subst, arith, append_assoc, append-nil, length-append}
use Rattle.text_words.proofs.Cuts.{cut_once}
use Rattle.log_text.specs.declared.lines.LogLine.{LogLine}
use Rattle.log_text.specs.declared.lines.Mark.{Mark}
use Rattle.log_text.specs.declared.lines.Mark.TheVariants.{GPlus, GMinus, WPlus, WMinus}
use Rattle.log_text.specs.Behind.{AreLawful, Behind, Fits, HasCounts, IsLog, MayStand, behind, behind_all, moved, none_live}
use Rattle.log_text.specs.Taking.{IsGrowing}
use Rattle.log_text.specs.Text.{IsLogText, end_text, line_text, lines_text}
use Rattle.log_text.proofs.LineWords.{end-whole, line-end, line-whole, same-line}

-- each line fits
abbrev pub AllFit : List LogLine → Type 0
AllFit [] = Unit {0}
AllFit (l ∷ ls) = Fits l × AllFit ls

pub lawful-fit : (v : Behind) (ls : List LogLine) → AreLawful v ls → AllFit ls
lawful-fit v [] a = tt
lawful-fit v (l ∷ ls) a = (a.0.fits, lawful-fit (behind v l) ls a.1)

-- a list that begins with lines goes on with others, and so does its text
pub record Begins (before ls : List LogLine) (front end : List ℕ) : Type 0 where
  pub more : List LogLine
  pub whole : ls ≡ before ++ more
  pub rest : front ≡ lines_text more ++ end

-- what stands behind the first lines of a text that ends with a last line
pub begins : (before ls : List LogLine) (front : List ℕ) (n : ℕ) (left : List ℕ) → AllFit before → AllFit ls
    → lines_text before ++ front ≡ lines_text ls ++ (end_text n ++ (10 ∷ left)) → Begins before ls front (end_text n ++ (10 ∷ left))
begins [] ls front n left f g e = record { more = ls; whole = refl; rest = e }
begins (b ∷ before) [] front n left f g e =
    let r = cut_once 10 (line_text b) (end_text n) (lines_text before ++ front) left (line-whole b) (end-whole n) (sym (append_assoc (line_text b) (10 ∷ lines_text before) front) ∙ e) in
    absurd (line-end b n r.0)
begins (b ∷ before) (l ∷ ls) front n left f g e =
    let end = end_text n ++ (10 ∷ left) in
    let r = cut_once 10 (line_text b) (line_text l) (lines_text before ++ front) (lines_text ls ++ end) (line-whole b) (line-whole l)
    (sym (append_assoc (line_text b) (10 ∷ lines_text before) front) ∙ (e ∙ append_assoc (line_text l) (10 ∷ lines_text ls) end)) in
    let same : b ≡ l = same-line b l f.0 g.0 r.0 in
    let w = begins before ls front n left f.1 g.1 r.1 in
    record { more = w.more; whole = ap (λ k. k ∷ ls) (sym same) ∙ ap (λ k. b ∷ k) w.whole; rest = w.rest }

-- the law of lines behind others
pub lawful-behind : (v : Behind) (before more : List LogLine) → AreLawful v (before ++ more) → AreLawful (behind_all v before) more
lawful-behind v [] more a = a
lawful-behind v (b ∷ before) more a = lawful-behind (behind v b) before more a.1

pub lawful-push : (v : Behind) (ls : List LogLine) (l : LogLine) → AreLawful v ls → AreLawful (behind_all v ls) (l ∷ []) → AreLawful v (ls ++ l ∷ [])
lawful-push v [] l a b = b
lawful-push v (k ∷ ls) l a b = (a.0, lawful-push (behind v k) ls l a.1 b)

pub behind-push : (v : Behind) (ls : List LogLine) (l : LogLine) → behind_all v (ls ++ l ∷ []) ≡ behind (behind_all v ls) l
behind-push v [] l = refl
behind-push v (k ∷ ls) l = behind-push (behind v k) ls l

pub lines-push : (ls : List LogLine) (l : LogLine) → lines_text (ls ++ l ∷ []) ≡ lines_text ls ++ (line_text l ++ 10 ∷ [])
lines-push [] l = refl
lines-push (k ∷ ls) l = ap (λ t. line_text k ++ (10 ∷ t)) (lines-push ls l) ∙ sym (append_assoc (line_text k) (10 ∷ lines_text ls) (line_text l ++ 10 ∷ []))

count-le : (v : Behind) (l : LogLine) → ((behind v l).grefc ≤ v.grefc + 1) × ((behind v l).gwrefc ≤ v.gwrefc + 1)
count-le v l = by l.mark
  where
    by : (m : Mark) → ((moved v m l.h.0 l.p.0).grefc ≤ v.grefc + 1) × ((moved v m l.h.0 l.p.0).gwrefc ≤ v.gwrefc + 1)
    by GPlus = (omega arith, omega arith)
    by GMinus = (omega arith, omega arith)
    by WPlus = (omega arith, omega arith)
    by WMinus = (omega arith, omega arith)

-- what is kept of the lines so far, after one line more
pub noted : (ls : List LogLine) (v w : Behind) (l : LogLine) (n : ℕ) → v ≡ behind_all none_live ls → w ≡ behind v l
    → v.grefc ≤ n → v.gwrefc ≤ n → (w ≡ behind_all none_live (ls ++ l ∷ [])) × (w.grefc ≤ n + 1) × (w.gwrefc ≤ n + 1)
noted ls v w l n e f g k = (let c = count-le v l in
    (f ∙ (ap (λ z. behind z l) e ∙ sym (behind-push none_live ls l)), omega (arith, c.0, g, ap (λ (z : Behind). z.grefc) f), omega (arith, c.1, k, ap (λ (z : Behind). z.gwrefc) f)))

pub grown : (ls new : List LogLine) (v w : Behind) (l : LogLine) → IsGrowing ls v → Fits l
    → MayStand v l.mark l.h.0 l.p.0 → HasCounts (behind v l) l → new ≡ ls ++ l ∷ [] → w ≡ behind v l → IsGrowing new w
grown ls new v w l k f s c e g =
    let n = noted ls v w l (length ls) k.behind g k.strong k.weak in
    let one : AreLawful v (l ∷ []) = (record { fits = f; stands = s; counts = c }, tt) in
    record {
      lawful = subst IsLog (sym e) (lawful-push none_live ls l k.lawful (subst (λ z. AreLawful z (l ∷ [])) k.behind one));
      behind = n.0 ∙ ap (behind_all none_live) (sym e);
      strong = omega (arith, n.1, ap length e, length-append ls (l ∷ []));
      weak = omega (arith, n.2, ap length e, length-append ls (l ∷ []));
    }

-- a text is that of one log
pub one-log : (bytes : List ℕ) (a b : List LogLine) → IsLogText bytes a → IsLogText bytes b → a ≡ b
one-log bytes a b s t =
    let w = begins a b (end_text (length a) ++ 10 ∷ []) (length b) [] (lawful-fit none_live a s.lawful) (lawful-fit none_live b t.lawful) (sym s.text ∙ t.text) in
    by w.more w.whole w.rest
  where
    by : (more : List LogLine) → b ≡ a ++ more → end_text (length a) ++ 10 ∷ [] ≡ lines_text more ++ (end_text (length b) ++ 10 ∷ []) → a ≡ b
    by [] e r = sym (e ∙ append-nil a)
    by (m ∷ more) e r =
        let c = cut_once 10 (end_text (length a)) (line_text m) [] (lines_text more ++ (end_text (length b) ++ 10 ∷ []))
        (end-whole (length a)) (line-whole m) (r ∙ append_assoc (line_text m) (10 ∷ lines_text more) (end_text (length b) ++ 10 ∷ [])) in
        absurd (line-end m (length a) (sym c.0))
