-- The places of a list that a report reads are those below 2^32: what stands there in the list of numbers is
-- the number of what stands there in the list, and nothing stands past them.
use Rattle.std.proofs.Common.{◌≡◌, ℕ, ◌<◌, List, length, take, slice_get, map, Option, None, sym, ◌∙◌, ap, refl, arith, inl, inr}
use Rattle.std.specs.Option.{option_map}
use Rattle.std.proofs.lemmas.List.{length-take, get_or-take}
use Rattle.std.proofs.lemmas.Option.{slice_get_past, slice_get_read, slice_get_cases, slice_get-map}

pub place_past : (xs : List ℕ) (i : ℕ) → 4294967295 < i → None ≡ slice_get (take 4294967296 xs) i
place_past xs i l = sym (slice_get_past (take 4294967296 xs) i (omega (arith, length-take 4294967296 xs)))

place_front : {X : Type 0} (n : ℕ) (xs : List X) (i : ℕ) → i < n → slice_get xs i ≡ slice_get (take n xs) i
place_front n xs i l = elim (slice_get_cases xs i).1 [
  | inl p ↦ p.2 ∙ sym (slice_get_read (take n xs) (length (take n xs)) i p.0 refl (omega (arith, length-take n xs, p.1)) (sym (get_or-take n xs i p.0 l ∙ p.3)))
  | inr p ↦ p.1 ∙ sym (slice_get_past (take n xs) i (omega (arith, length-take n xs, p.0)))
]

pub place_in : {X : Type 0} (f : X → ℕ) (xs : List X) (i : ℕ) (r : Option X) (q : Option ℕ) → i < 4294967296 → r ≡ slice_get xs i → q ≡ option_map f r → q ≡ slice_get (take 4294967296 (map f xs)) i
place_in f xs i r q l e g = g ∙ (ap (option_map f) e ∙ (sym (slice_get-map f xs i) ∙ place_front 4294967296 (map f xs) i l))
