-- Texts of a list are written one by one: what was written is those before one, and then one more.
use Rattle.std.proofs.Common.{◌≡◌, ℕ, ◌≤◌, List, [], ◌∷◌, ◌++◌, Option, Err, refl, sym, ◌∙◌, append_assoc, append-nil}
use Rattle.byte_streams.specs.Sending.{BuffersText, Sends}
use Rattle.byte_streams.proofs.Written.{BuffersText-none, BuffersText-then, Sends-into}
use Rattle.log_text.specs.Answers.{pieces}

-- of the texts of a list a beginning was written, and these are left
pub record Sent {X : Type 0} (piece : X → List ℕ) (xs left : List X) (a b : Option (List ℕ)) (p q : List ℕ) : Type 0 where
  pub text : List ℕ
  pub whole : pieces piece xs ≡ text ++ pieces piece left
  pub so_far : BuffersText a b p q text

pub none-sent : {X : Type 0} (piece : X → List ℕ) (xs : List X) (a : Option (List ℕ)) (p : List ℕ) → Sent piece xs xs a a p p
none-sent piece xs a p = record { text = []; whole = refl; so_far = BuffersText-none a p }

module _ {X : Type 0} (piece : X → List ℕ) (xs : List X) where
  pub one-more : (x : X) (left : List X) (a b c : Option (List ℕ)) (p q r : List ℕ) → Sent piece xs (x ∷ left) a b p q → BuffersText b c q r (piece x) → Sent piece xs left a c p r
  one-more x left a b c p q r w v = record {
    text = w.text ++ piece x;
    whole = w.whole ∙ sym (append_assoc w.text (piece x) (pieces piece left));
    so_far = BuffersText-then a b c p q r w.text (piece x) w.so_far v;
  }

  -- one that couldn't be written
  pub not-sent : {E : Type 0} (x : X) (left : List X) (a b c : Option (List ℕ)) (p q r : List ℕ) (f g k : ℕ) (z : E) (whole : List ℕ)
      → whole ≡ pieces piece xs → Sent piece xs (x ∷ left) a b p q → f ≤ g → Sends {E = E} b c q r g k (Err z) (piece x) → Sends {E = E} a c p r f k (Err z) whole
  not-sent x left a b c p q r f g k z whole e w h v = Sends-into a b c p q r f g k z w.text (piece x)
      (pieces piece left) whole (e ∙ (w.whole ∙ sym (append_assoc w.text (piece x) (pieces piece left)))) w.so_far h v

  -- all of them
  pub all-sent : (a b : Option (List ℕ)) (p q : List ℕ) (whole : List ℕ) → whole ≡ pieces piece xs → Sent piece xs [] a b p q → BuffersText a b p q whole
  all-sent a b p q whole e w = rw (e, w.whole, append-nil w.text) w.so_far
