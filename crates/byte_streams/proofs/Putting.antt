-- What was written right behind a line's text is its new end, however many of the bytes that were written belong to it.
use Rattle.std.proofs.Common.{◌≡◌, ℕ, ◌+◌, ◌<◌, ◌≤◌, List, [], ◌∷◌, ◌++◌, length, take, drop, set, ap, ◌∙◌, arith, append_assoc, take_all, length-drop}
use Rattle.std.proofs.lemmas.List.{length-take-le, length-set, take-append-le, take_more_set}
use Rattle.std.proofs.lemmas.Slice.{take-put_mid}
use Rattle.std.proofs.lemmas.Simd.{put_chunk_whole}
use Rattle.std.proofs.Math.Seq.{take-append-add}
use Rattle.std.specs.Simd.Lanes.{chunk, put_chunk}
use borrow.Rule.Slice.PartMut.{put_mid, mid_of, post_of}

front_put : (a k n : ℕ) (xs ys : List ℕ) → a ≤ length xs → n ≤ length ys → take (a + n) (put_mid a k xs ys) ≡ take a xs ++ take n ys
front_put a k n xs ys within fits =
    let after = post_of a k xs in
    rw (length-take-le a xs within) at (take-append-add (take a xs) (ys ++ after) n) ∙ ap (λ t. take a xs ++ t) (take-append-le n ys after fits)

-- so many bytes as there are lanes were written at once, of which the first n belong to the text
pub lanes_put : (lanes a k n : ℕ) (xs ys : List ℕ) → length ys ≡ lanes → a + lanes ≤ length xs → k ≡ lanes → n ≤ lanes
    → take (a + n) (put_mid a k xs (put_chunk 0 (mid_of a k xs) (chunk 0 lanes ys))) ≡ take a xs ++ take n ys
lanes_put lanes a k n xs ys long within wide fits =
    let whole : chunk 0 lanes ys ≡ ys = take_all lanes ys (omega (arith, long)) in
    rw (wide, whole, put_chunk_whole (mid_of a lanes xs) ys (omega (arith, long, within, length-take-le lanes (drop a xs), length-drop a xs)))
    (front_put a lanes n xs ys (omega (arith, within)) (omega (arith, long, fits)))

-- a space was written, and a word behind it
pub word_put : (a b k n : ℕ) (xs ys : List ℕ) → b ≡ a + 1 → a < length xs → length ys ≡ n → take (b + n) (put_mid b k (set xs a 32) ys) ≡ take a xs ++ 32 ∷ ys
word_put a b k n xs ys next within long =
    rw (next) (take-put_mid (a + 1) k (set xs a 32) ys (a + 1 + n) (omega (arith, long)) (omega (arith, within, length-set xs a 32))
    ∙ (ap (λ t. t ++ ys) (take_more_set xs a 32 within) ∙ append_assoc (take a xs) (32 ∷ []) ys))
