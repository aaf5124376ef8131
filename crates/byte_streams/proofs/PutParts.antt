-- A word with the digit that was set behind it, and a part's pieces as they are put together.
use Rattle.std.proofs.Common.{◌≡◌, ℕ, ◌+◌, ◌<◌, List, ◌++◌, length, take, drop, set, decimal, refl, ap, ◌∙◌, arith, append_assoc, length-append, length-drop}
use Rattle.std.proofs.lemmas.Fmt.{decimal_digit}
use Rattle.std.proofs.lemmas.List.{take-set, take_more_set}

-- behind a word the digit 1 was set
pub word_set : (n : ℕ) (ys zs : List ℕ) → length ys ≡ n → n < length zs → take (n + 1) (set (ys ++ drop n zs) n 49) ≡ take n (set (ys ++ drop n zs) n 49) ++ decimal 1
word_set n ys zs e h =
    let xs : List ℕ = ys ++ drop n zs in
    let within : n < length xs = omega (arith, e, h, length-append ys (drop n zs), length-drop n zs) in
    take_more_set xs n 49 within ∙ rw (take-set xs n 49, decimal_digit 1 (omega arith)) refl

-- a word, the digits of a number but for the last two, and these, as they are put
pub near-joined : (o w d e : List ℕ) → (o ++ (w ++ d)) ++ e ≡ o ++ (w ++ (d ++ e))
near-joined o w d e = append_assoc o (w ++ d) e ∙ ap (λ t. o ++ t) (append_assoc w d e)
