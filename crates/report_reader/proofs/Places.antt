-- Where a line stands that is refused, and why it is.
use Rattle.std.proofs.Common.{◌≡◌, ◌≢◌, ℕ, zero, suc, ◌+◌, ◌-◌, ◌<◌, ◌^◌, ◌⊎◌, inl, inr, true, false, List, [], ◌∷◌, ◌++◌, get_or, length, take, All, codes, decimal, refl, sym, ap, ◌∙◌}
use Rattle.std.proofs.Common.{arith, append_assoc, true≢false}
use Rattle.std.specs.Prelude.{nat_eq}
use Rattle.std.proofs.lemmas.List.{take_all, append_cancel_right}
use Rattle.std.proofs.lemmas.List.Elements.{All-cons, All-nil}
use Rattle.std.proofs.lemmas.Bool.Decides.{eqb_tells}
use Rattle.joint_machine.specs.declared.events.Entry.{Entry}
use Rattle.history_report.specs.Report.{end_text}
use Rattle.entry_reader.specs.Saying.{IsLineOf}
use Rattle.report_reader.specs.declared.faults.ReportCause.TheVariants as cause
use Rattle.report_reader.specs.Faults.{IsEntryText, IsEndText, Placed, IsFaultHere}
use Rattle.report_reader.specs.Steps.{IsMisformed, StopsAt}
use Rattle.report_reader.proofs.Texts.{not_last}

-- a line, its newline, and what stands behind it
abbrev closed : List ℕ → ℕ → Placed
closed text before = record { text = text; closed = true; before = before; ended = false }

-- a line without a newline
pub unclosed : (before : ℕ) (bytes : List ℕ) → 0 < length bytes → All (λ b. b ≢ 10) bytes → IsFaultHere before false bytes record { line = before + 1; cause = cause.Form }
unclosed before bytes some all = record {
  here = record { text = bytes; closed = false; before = before; ended = false };
  count = refl;
  last = refl;
  whole = all;
  stands = inr (refl, some, refl);
  number = refl;
  has = (refl, inl refl);
}

-- a line that is no entry's, and doesn't begin as a last line
first_same : (x y : List ℕ) → x ≡ y → get_or x 0 0 ≡ get_or y 0 0
first_same x y e = ap (λ z. get_or z 0 0) e

no_end : (n : ℕ) (text left : List ℕ) → (get_or (text ++ (10 ∷ left)) 0 0 ≡ 101 → ⊥) → IsEndText n text → ⊥
no_end n [] left k e = (let q = first_same (10 ∷ []) (end_text n) e.1 in omega (arith, q))
no_end n (b ∷ text) left k e = k (first_same (b ∷ (text ++ 10 ∷ [])) (end_text n) e.1)

pub unread : (before : ℕ) (bytes text left : List ℕ) → All (λ b. b ≢ 10) text → bytes ≡ text ++ (10 ∷ left)
    → (get_or bytes 0 0 ≡ 101 → ⊥) → ((e : Entry) (ns : List ℕ) → e.number ≡ before → IsLineOf text e ns → ⊥)
    → IsFaultHere before false bytes record { line = before + 1; cause = cause.Form }
unread before bytes text left all cut other none = record {
  here = closed text before;
  count = refl;
  last = refl;
  whole = all;
  stands = inl (left, refl, cut);
  number = refl;
  has = (refl, inr (λ t. none t.entry t.numbers t.same t.line, λ n e. no_end n text left (λ q. other (first_same bytes (text ++ (10 ∷ left)) cut ∙ q)) e));
}

-- a line that begins as a last line: it is no entry's
first_is : (bytes : List ℕ) → get_or bytes 0 0 ≡ 101 → (y : List ℕ) × (bytes ≡ 101 ∷ y)
first_is [] e = absurd (omega (arith, e))
first_is (b ∷ bytes) e = (bytes, ap (λ z. z ∷ bytes) e)

no_entry : (before : ℕ) (bytes text left : List ℕ) → bytes ≡ text ++ (10 ∷ left) → get_or bytes 0 0 ≡ 101 → IsEntryText before text → ⊥
no_entry before bytes text left cut e t = (let f = first_is bytes e in not_last before text (10 ∷ left) f.0 t (sym cut ∙ f.1))

abbrev pub IsEnd : List ℕ → ℕ → Type 0
IsEnd text n = codes "end " ++ decimal n ≡ text

end_is : (n : ℕ) (text : List ℕ) → IsEnd text n → text ++ 10 ∷ [] ≡ end_text n
end_is n text e = ap (λ z. z ++ 10 ∷ []) (sym e) ∙ append_assoc (codes "end ") (decimal n) (10 ∷ [])

end_from : (n : ℕ) (text : List ℕ) → text ++ 10 ∷ [] ≡ end_text n → IsEnd text n
end_from n text e = append_cancel_right (codes "end " ++ decimal n) text (10 ∷ []) (append_assoc (codes "end ") (decimal n) (10 ∷ []) ∙ sym e)

pub unended : (before : ℕ) (bytes text left : List ℕ) → All (λ b. b ≢ 10) text → bytes ≡ text ++ (10 ∷ left) → get_or bytes 0 0 ≡ 101
    → ((n : ℕ) → n < 2 ^ 64 → IsEnd text n → ⊥) → IsFaultHere before false bytes record { line = before + 1; cause = cause.Form }
unended before bytes text left all cut first none = record {
  here = closed text before;
  count = refl;
  last = refl;
  whole = all;
  stands = inl (left, refl, cut);
  number = refl;
  has = (refl, inr (no_entry before bytes text left cut first, λ n e. none n e.0 (end_from n text e.1)));
}

pub misended : (before : ℕ) (bytes text left : List ℕ) (n : ℕ) → All (λ b. b ≢ 10) text → bytes ≡ text ++ (10 ∷ left)
    → n < 2 ^ 64 → IsEnd text n → n ≢ before → IsFaultHere before false bytes record { line = before + 1; cause = cause.Ending }
misended before bytes text left n all cut few e other = record {
  here = closed text before;
  count = refl;
  last = refl;
  whole = all;
  stands = inl (left, refl, cut);
  number = refl;
  has = inr (refl, (n, (few, end_is n text e), other));
}

-- the first line of bytes, with a newline or without
cut_or_none : (bytes : List ℕ) → All (λ b. b ≢ 10) bytes ⊎ ((text : List ℕ) × (rest : List ℕ) × All (λ b. b ≢ 10) text × (bytes ≡ text ++ (10 ∷ rest)))
cut_or_none [] = inl (All-nil (λ b. b ≢ 10))
cut_or_none (b ∷ bytes) = elim (eqb_tells b 10) [
  | inl h ↦ inr ([], bytes, All-nil (λ b. b ≢ 10), ap (λ z. z ∷ bytes) h.1)
  | inr h ↦ elim (cut_or_none bytes) [
    | inl k ↦ inl (All-cons (λ b. b ≢ 10) b bytes h.1 k)
    | inr k ↦ inr (b ∷ k.0, k.1, All-cons (λ b. b ≢ 10) b k.0 h.1 k.2, ap (λ z. b ∷ z) k.3)
  ]
]

pub behind_end : (before : ℕ) (bytes : List ℕ) → 0 < length bytes → IsFaultHere before true bytes record { line = before + 1; cause = cause.Ending }
behind_end before bytes some = elim (cut_or_none bytes) [
  | inl k ↦ record {
    here = record { text = bytes; closed = false; before = before; ended = true };
    count = refl;
    last = refl;
    whole = k;
    stands = inr (refl, some, refl);
    number = refl;
    has = inl refl;
  }
  | inr k ↦ record {
    here = record { text = k.0; closed = true; before = before; ended = true };
    count = refl;
    last = refl;
    whole = k.2;
    stands = inl (k.1, refl, k.3);
    number = refl;
    has = inl refl;
  }
]

-- what the tests of the code say
pub not_empty : (n : ℕ) → false ≡ nat_eq n 0 → 0 < n
not_empty zero e = absurd (true≢false (sym e))
not_empty (suc n) e = omega arith

pub misformed : (before : ℕ) (bytes : List ℕ) → 0 < length bytes → get_or bytes 0 0 ≢ 101 → StopsAt before bytes → IsMisformed before bytes
misformed before bytes l other (inl e) = absurd (let s = ap length e in omega (arith, l, s))
misformed before bytes l other (inr (inl e)) = absurd (other e)
misformed before bytes l other (inr (inr f)) = f

pub whole_front : (front text : List ℕ) (n : ℕ) → front ≡ take n text → n ≡ length text → front ≡ text
whole_front front text n e l = e ∙ take_all n text (omega (arith, l))
