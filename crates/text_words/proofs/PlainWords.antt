-- Plain words: each byte is above the space and isn't the equals sign. So such a word has no space and no newline, and
-- it is not the equals sign itself. Decimals are plain, and so is a letter with a decimal behind it.
use Rattle.std.proofs.Common.{◌≡◌, ◌≢◌, ℕ, ◌<◌, ◌≤◌, Bool, true, false, cond, not, ◌&&◌, List, [], ◌∷◌, codes, decimal, refl, arith, All}
use Rattle.std.specs.List.{AllByRecursion, list_all}
use Rattle.std.proofs.Math.Dec.{eqb, ltb}
use Rattle.std.proofs.lemmas.Bool.Decides.{nat_tests}
use Rattle.std.proofs.lemmas.List.Elements.{All-head, All-tail}
use Rattle.text_words.proofs.Cutting.{Lacks}
use Rattle.text_words.proofs.Decimals.{IsDigit, decimal-digits}

-- a byte above the space that isn't the equals sign
abbrev pub IsPlainByte : ℕ → Type 0
IsPlainByte b = (32 < b) × (b ≢ 61)

abbrev pub Plain : List ℕ → Type 0
Plain w = AllByRecursion IsPlainByte w

abbrev pub AllPlain : List (List ℕ) → Type 0
AllPlain ws = AllByRecursion Plain ws

pub plain-digits : (ds : List ℕ) → All IsDigit ds → Plain ds
plain-digits [] h = tt
plain-digits (d ∷ ds) h = (let k = All-head IsDigit d ds h in (omega (arith, k), λ e. omega (arith, k, e)), plain-digits ds (All-tail IsDigit d ds h))

pub plain-decimal : (n : ℕ) → Plain (decimal n)
plain-decimal n = plain-digits (decimal n) (decimal-digits n)

abbrev pub is_plain : ℕ → Bool
is_plain b = cond (ltb 32 b) (not (eqb b 61)) false

pub plain-byte : (b : ℕ) → is_plain b ≡ true → IsPlainByte b
plain-byte b e = (grind (arith, nat_tests), grind (arith, nat_tests))

pub plain-code : (w : List ℕ) → list_all is_plain w ≡ true → Plain w
plain-code [] e = tt
plain-code (b ∷ w) e = by (is_plain b) refl e (plain-code w)
  where
    by : (t : Bool) → is_plain b ≡ t → (t && list_all is_plain w) ≡ true → (list_all is_plain w ≡ true → Plain w) → Plain (b ∷ w)
    by true i h more = (plain-byte b i, more h)
    by false i h more = (let g : ⊥ = cc in absurd g)

-- a letter and a number
pub plain-lettered : (b n : ℕ) → is_plain b ≡ true → Plain (b ∷ decimal n)
plain-lettered b n e = (plain-byte b e, plain-decimal n)

-- plain words have no space and no newline, and none is the equals sign
pub no-byte : (c : ℕ) → c ≤ 32 → (w : List ℕ) → Plain w → Lacks c w
no-byte c l [] h = tt
no-byte c l (b ∷ w) h = (λ e. omega (arith, l, h.0.0, e), no-byte c l w h.1)

pub no-bytes : (c : ℕ) → c ≤ 32 → (ws : List (List ℕ)) → AllPlain ws → AllByRecursion (Lacks c) ws
no-bytes c l [] h = tt
no-bytes c l (w ∷ ws) h = (no-byte c l w h.0, no-bytes c l ws h.1)

not-equals : (w : List ℕ) → Plain w → w ≢ codes "="
not-equals [] h e = cc
not-equals (b ∷ w) h e = h.0.1 cc

pub no-equals : (ws : List (List ℕ)) → AllPlain ws → Lacks (codes "=") ws
no-equals [] h = tt
no-equals (w ∷ ws) h = (not-equals w h.0, no-equals ws h.1)
