-- What is put of a log that was read, and that a log's text is answered.
use Rattle.std.proofs.Common.{◌≡◌, ℕ, ◌+◌, ◌≤◌, inl, inr, List, ◌++◌, length, Option, Some, None, refl, sym, ap, subst, ◌∙◌, arith, append-nil, length-append}
use Rattle.std.specs.Io.KnownBytes.{IsAtEnd}
use Rattle.byte_streams.specs.Reading.{Took}
use Rattle.log_text.specs.declared.lines.LogCause.{LogCause}
use Rattle.log_text.specs.declared.lines.LogLine.{LogLine}
use Rattle.log_text.specs.Answers.{refusal_text}
use Rattle.log_text.specs.Text.{IsLogText}
use Rattle.bridge_program.specs.Logs.{IsLineWrong, IsRefusal, LeftOf, MOST_BYTES, UnreleasedPut, left_text}

-- a text that names a line was put, of which the line is wrong, or too long
module _ (bytes : List ℕ) (Put : List ℕ → Type 0) where
  abbrev pub PutsRefusal : Type 0
  PutsRefusal = (text : List ℕ) × IsRefusal bytes text × Put text

  pub puts_wrong : (number : ℕ) (why : LogCause) → IsLineWrong bytes number why → Put (refusal_text number why) → PutsRefusal
  puts_wrong number why w p = (refusal_text number why, inl (record { number = number; why = why; wrong = w; is = refl }), p)

  pub puts_left : (lines : List LogLine) → IsLogText bytes lines → (left : LeftOf lines) × Put (left_text left) → UnreleasedPut bytes Put
  puts_left lines t p = record { lines = lines; reads = t; left_over = p.0; text = p.1 }

  -- so of what was taken from a source
  module _ (left rest : Option (List ℕ)) (took : Took MOST_BYTES left rest bytes) where
    ended : length bytes ≤ MOST_BYTES → IsAtEnd rest
    ended l = elim took.stopped [ inl a ↦ a | inr e ↦ absurd (omega (arith, e, l)) ]

-- all of a source that has no more than the limit was taken
all-taken : (left rest : Option (List ℕ)) (input bytes : List ℕ) → left ≡ Some input → length input ≤ MOST_BYTES → Took MOST_BYTES left rest bytes → bytes ≡ input
all-taken None rest input bytes e l t = absurd (let f : ⊥ = cc in f)
all-taken (Some s) None input bytes e l t = absurd t.taken
all-taken (Some s) (Some r) input bytes e l t =
    let is : s ≡ input = cc in
    let whole : input ≡ bytes ++ r = sym is ∙ t.taken in
    elim t.stopped [
      | inl a ↦ sym (whole ∙ (ap (λ x. bytes ++ x) a ∙ append-nil bytes))
      | inr m ↦ absurd (omega (arith, m, l, ap length whole, length-append bytes r))
    ]

-- a log's text isn't refused
not-refused : (bytes text : List ℕ) (lines : List LogLine) → IsLogText bytes lines → length bytes ≤ MOST_BYTES → IsRefusal bytes text → ⊥
not-refused bytes text lines t l (inl w) = elim w.wrong [ inl f ↦ f.2 lines t | inr f ↦ absurd (let e = f.0 in omega (arith, e, l)) ]
not-refused bytes text lines t l (inr w) = (let e = w.long in absurd (omega (arith, e, l)))

pub never_refused : (left rest : Option (List ℕ)) (input bytes text : List ℕ) (lines : List LogLine) → left ≡ Some input
    → IsLogText input lines → length input ≤ MOST_BYTES → Took MOST_BYTES left rest bytes → IsRefusal bytes text → ⊥
never_refused left rest input bytes text lines e t l took r =
    let same = all-taken left rest input bytes e l took in
    not-refused bytes text lines (subst (λ b. IsLogText b lines) (sym same) t) (subst (λ b. length b ≤ MOST_BYTES) (sym same) l) r
