-- A log is written line by line: each text is those before it and one line more.
use Rattle.std.proofs.Common.{◌≡◌, ℕ, ◌≤◌, List, [], ◌∷◌, ◌++◌, Option, Err, sym, ap, ◌∙◌, append_assoc}
use Rattle.byte_streams.specs.Sending.{BuffersText, Sends}
use Rattle.byte_streams.proofs.Written.{BuffersText-then, Sends-into}
use Rattle.log_text.specs.declared.lines.LogLine.{LogLine}
use Rattle.log_text.specs.Text.{line_text, lines_text}

-- of the lines a beginning was written, and these are left
pub record Wrote (ls left : List LogLine) (a b : Option (List ℕ)) (p q : List ℕ) : Type 0 where
  pub text : List ℕ
  pub whole : lines_text ls ≡ text ++ lines_text left
  pub so_far : BuffersText a b p q text

line-first : (l : LogLine) (ls : List LogLine) → lines_text (l ∷ ls) ≡ (line_text l ++ 10 ∷ []) ++ lines_text ls
line-first l ls = sym (append_assoc (line_text l) (10 ∷ []) (lines_text ls))

pub one-more : (ls : List LogLine) (l : LogLine) (left : List LogLine) (a b c : Option (List ℕ)) (p q r : List ℕ)
    → Wrote ls (l ∷ left) a b p q → BuffersText b c q r (line_text l ++ 10 ∷ []) → Wrote ls left a c p r
one-more ls l left a b c p q r w v = record {
  text = w.text ++ (line_text l ++ 10 ∷ []);
  whole = w.whole ∙ (ap (λ t. w.text ++ t) (line-first l left) ∙ sym (append_assoc w.text (line_text l ++ 10 ∷ []) (lines_text left)));
  so_far = BuffersText-then a b c p q r w.text (line_text l ++ 10 ∷ []) w.so_far v;
}

pub not-wrote : {E : Type 0} (ls : List LogLine) (l : LogLine) (left : List LogLine) (a b c : Option (List ℕ)) (p q r : List ℕ) (f g k : ℕ) (z : E)
    → Wrote ls (l ∷ left) a b p q → f ≤ g → Sends {E = E} b c q r g k (Err z) (line_text l ++ 10 ∷ []) → Sends {E = E} a c p r f k (Err z) (lines_text ls)
not-wrote ls l left a b c p q r f g k z w h v =
    let line = line_text l ++ 10 ∷ [] in
    Sends-into a b c p q r f g k z w.text line (lines_text left) (lines_text ls) (w.whole ∙ (ap (λ t. w.text ++ t) (line-first l left) ∙ sym (append_assoc w.text line (lines_text left)))) w.so_far h v
