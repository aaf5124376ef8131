-- The words of a line of a log have no space, so the line is cut into them again; they tell the line, and no such line
-- is a last one.
use Rattle.std.proofs.Common.{◌≡◌, ◌≢◌, ℕ, ◌<◌, ◌^◌, List, [], ◌∷◌, codes, decimal, get_or, refl, sym, ap, ◌∙◌, arith, All}
use Rattle.std.specs.List.{slice_split}
use Rattle.std.proofs.Math.Dec.{eqb}
use Rattle.std.proofs.lemmas.Fmt.{decimal_injective}
use Rattle.text_words.proofs.PlainWords.{AllPlain, Plain, plain-code, plain-decimal, plain-lettered}
use Rattle.text_words.proofs.PlainLines.{words-cut, words-whole}
use Rattle.log_text.specs.declared.lines.Mark.{Mark}
use Rattle.log_text.specs.declared.lines.Mark.TheVariants.{GPlus, GMinus, WPlus, WMinus}
use Rattle.log_text.specs.declared.lines.LogLine.{LogLine}
use Rattle.text_words.specs.Words.{spaced}
use Rattle.std.proofs.lemmas.List.Splits.{join_with_byte-slice_split}
use Rattle.log_text.specs.Behind.{Fits}
use Rattle.log_text.specs.Faults.{IsNeither}
use Rattle.log_text.specs.Text.{mark_text, number_words, line_words, line_text, end_words, end_text}

plain-mark : (m : Mark) → Plain (mark_text m)
plain-mark GPlus = plain-code (codes "+g+") refl
plain-mark GMinus = plain-code (codes "-g-") refl
plain-mark WPlus = plain-code (codes "+w+") refl
plain-mark WMinus = plain-code (codes "-w-") refl

plain-line : (l : LogLine) → AllPlain (line_words l)
plain-line l = (
  plain-mark l.mark,
  (
    plain-lettered 104 l.h.0 refl,
    (plain-lettered 112 l.p.0 refl, (plain-code (codes "grefc") refl, (plain-decimal l.grefc, (plain-code (codes "gwrefc") refl, (plain-decimal l.gwrefc, (plain-lettered 64 l.entry refl, tt)))))),
  ),
)

plain-end : (n : ℕ) → AllPlain (end_words n)
plain-end n = (plain-code (codes "end") refl, (plain-decimal n, tt))

-- the words of a text
abbrev pub cut : List ℕ → List (List ℕ)
cut text = slice_split (λ b. eqb b 32) text

pub line-cut : (l : LogLine) → cut (line_text l) ≡ line_words l
line-cut l = words-cut (line_words l) (omega arith) (plain-line l)

pub end-cut : (n : ℕ) → cut (end_text n) ≡ end_words n
end-cut n = words-cut (end_words n) (omega arith) (plain-end n)

pub line-whole : (l : LogLine) → All (λ b. b ≢ 10) (line_text l)
line-whole l = words-whole (line_words l) (plain-line l)

pub end-whole : (n : ℕ) → All (λ b. b ≢ 10) (end_text n)
end-whole n = words-whole (end_words n) (plain-end n)

same-mark : (a b : Mark) → mark_text a ≡ mark_text b → a ≡ b
same-mark GPlus GPlus e = refl
same-mark GMinus GMinus e = refl
same-mark WPlus WPlus e = refl
same-mark WMinus WMinus e = refl
same-mark a b e = absurd (omega (arith, ap (λ t. get_or t 0 0) e, ap (λ t. get_or t 1 0) e))

-- the words tell the line
same-words : (k l : LogLine) → Fits k → Fits l → line_words k ≡ line_words l → k ≡ l
same-words k l f g e =
    let mark : mark_text k.mark ≡ mark_text l.mark = cc in
    let h : decimal k.h.0 ≡ decimal l.h.0 = cc in
    let p : decimal k.p.0 ≡ decimal l.p.0 = cc in
    let grefc : decimal k.grefc ≡ decimal l.grefc = cc in
    let gwrefc : decimal k.gwrefc ≡ decimal l.gwrefc = cc in
    let entry : decimal k.entry ≡ decimal l.entry = cc in
    let em = same-mark k.mark l.mark mark in
    let eh = decimal_injective k.h.0 l.h.0 (omega (arith, f.h)) (omega (arith, g.h)) h in
    let ep = decimal_injective k.p.0 l.p.0 (omega (arith, f.p)) (omega (arith, g.p)) p in
    let eg = decimal_injective k.grefc l.grefc (omega (arith, f.grefc)) (omega (arith, g.grefc)) grefc in
    let ew = decimal_injective k.gwrefc l.gwrefc (omega (arith, f.gwrefc)) (omega (arith, g.gwrefc)) gwrefc in
    let en = decimal_injective k.entry l.entry f.entry g.entry entry in
    λ i. record { mark = em i; h = record { 0 = eh i }; p = record { 0 = ep i }; grefc = eg i; gwrefc = ew i; entry = en i }

pub same-line : (k l : LogLine) → Fits k → Fits l → line_text k ≡ line_text l → k ≡ l
same-line k l f g e = same-words k l f g (sym (line-cut k) ∙ (ap cut e ∙ line-cut l))

pub same-end : (m n : ℕ) → m < 2 ^ 64 → n < 2 ^ 64 → end_text m ≡ end_text n → m ≡ n
same-end m n f g e =
    let w : end_words m ≡ end_words n = sym (end-cut m) ∙ (ap cut e ∙ end-cut n) in
    let d : decimal m ≡ decimal n = cc in
    decimal_injective m n f g d

pub mark-end : (m : Mark) → mark_text m ≢ codes "end"
mark-end GPlus e = omega (arith, ap (λ t. get_or t 0 0) e)
mark-end GMinus e = omega (arith, ap (λ t. get_or t 0 0) e)
mark-end WPlus e = omega (arith, ap (λ t. get_or t 0 0) e)
mark-end WMinus e = omega (arith, ap (λ t. get_or t 0 0) e)

-- a line is no last line
pub line-end : (l : LogLine) (n : ℕ) → line_text l ≢ end_text n
line-end l n e =
    let w : line_words l ≡ end_words n = sym (line-cut l) ∙ (ap cut e ∙ end-cut n) in
    let d : mark_text l.mark ≡ codes "end" = cc in
    mark-end l.mark d

-- a text that begins with the word of a last line
pub neither-end : (text first : List ℕ) (rest : List (List ℕ)) → cut text ≡ first ∷ rest → first ≡ codes "end" → ((n : ℕ) → n < 2 ^ 64 → rest ≡ decimal n ∷ [] → ⊥) → IsNeither text
neither-end text first rest e f none = record {
  line = λ l g q. mark-end l.mark (let w : line_words l ≡ first ∷ rest = sym (line-cut l) ∙ (ap cut q ∙ e) in let h : mark_text l.mark ≡ first = cc in h ∙ f);
  last = λ n g q. none n g (let w : end_words n ≡ first ∷ rest = sym (end-cut n) ∙ (ap cut q ∙ e) in cc);
}

-- one that begins with another word, and isn't that of a line
pub neither-line : (text first : List ℕ) (rest : List (List ℕ)) → cut text ≡ first ∷ rest → (first ≡ codes "end" → ⊥) → ((l : LogLine) → Fits l → rest ≡ number_words l → ⊥) → IsNeither text
neither-line text first rest e f none = record {
  line = λ l g q. none l g (let w : line_words l ≡ first ∷ rest = sym (line-cut l) ∙ (ap cut q ∙ e) in cc);
  last = λ n g q. f (let w : end_words n ≡ first ∷ rest = sym (end-cut n) ∙ (ap cut q ∙ e) in cc);
}

joined : (text : List ℕ) (ws : List (List ℕ)) → cut text ≡ ws → spaced ws ≡ text
joined text ws e = ap spaced (sym e) ∙ join_with_byte-slice_split 32 text

pub says-end : (text first : List ℕ) (rest : List (List ℕ)) (n : ℕ) → cut text ≡ first ∷ rest → first ≡ codes "end" → rest ≡ decimal n ∷ [] → end_text n ≡ text
says-end text first rest n e f r = joined text (end_words n) (e ∙ (ap (λ w. w ∷ rest) f ∙ ap (λ ws. codes "end" ∷ ws) r))

pub says-line : (text first : List ℕ) (rest : List (List ℕ)) (l : LogLine) (m : Mark) → cut text ≡ first ∷ rest → mark_text m ≡ first → l.mark ≡ m → rest ≡ number_words l → line_text l ≡ text
says-line text first rest l m e f g r = joined text (line_words l) (e ∙ (ap (λ w. w ∷ rest) (sym f ∙ ap mark_text (sym g)) ∙ ap (λ ws. mark_text l.mark ∷ ws) r))
