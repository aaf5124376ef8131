-- A source that has the bytes xs from place `at` on, and gives n of them, as many as there is room for, has
-- those from place `at + n` on: what it had is what it gave and what it has left. It gives none only where
-- there is no room or where it has none.
use Rattle.std.proofs.Common.{◌≡◌, ℕ, ◌+◌, ◌-◌, ◌<◌, min, List, [], ◌++◌, length, take, drop, refl, arith, length-drop}
use Rattle.std.proofs.lemmas.List.{take-append-drop, drop-drop, take_all, nil_from_length}

-- the part of a list from a place on, as code cuts it, is the rest of the list
pub rest_of : {X : Type 0} (at : ℕ) (xs : List X) → take (length xs - at) (drop at xs) ≡ drop at xs
rest_of at xs = take_all (length xs - at) (drop at xs) (omega (arith, length-drop at xs))

pub given : (n at : ℕ) (xs old new : List ℕ) → n ≡ min (length old) (length (take (length xs - at) (drop at xs))) → take n new ≡ take n (take (length xs - at) (drop at xs)) → length new ≡ length old
    → (drop at xs ≡ take n new ++ drop (at + n) xs) × (n ≡ 0 → 0 < length new → drop (at + n) xs ≡ [])
given n at xs old new count copied same =
    let e = rest_of at xs in
    let count' = rw e at count in
    let copied' = rw e at copied in
    (rw (copied', ← drop-drop n at xs, take-append-drop n (drop at xs)) refl, λ z h. nil_from_length _ (omega (arith, length-drop (at + n) xs, length-drop at xs, count')))
