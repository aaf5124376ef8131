-- A list is cut at the first place of a byte: what stands before it is free of the byte, and the parts of
-- the whole are that part and the parts of what stands behind the byte. Words that are free of the byte and
-- are joined by it are cut into the same words again.
use Rattle.std.proofs.Common.{◌≡◌, ◌≢◌, ℕ, ◌+◌, ◌<◌, ◌≤◌, Bool, true, false, cond, List, [], ◌∷◌, ◌++◌, length, take, drop, get_or, sym, ◌∙◌, ap, refl, arith, add-one, inl, inr}
use Rattle.std.specs.Bool.{MatchBool}
use Rattle.std.specs.List.{All, slice_split, join_with_byte}
use Rattle.std.proofs.lemmas.List.{take-append-drop, get_or-take, length-take}
use Rattle.std.proofs.lemmas.List.Elements.{All-from_get_or, All-weaker, All-head, All-tail}
use Rattle.std.proofs.lemmas.List.Splits.{slice_split_none, slice_split_at, length-slice_split}
use Rattle.std.proofs.lemmas.Bool.Decides.{eqb_tells}
use Rattle.std.proofs.Math.Dec.{eqb}
use Rattle.std.proofs.Math.Seq.{drop-cons}

-- a byte that isn't c fails the test for c
pub other_fails : (c b : ℕ) → b ≢ c → eqb b c ≡ false
other_fails c b ne = elim (eqb_tells b c) [ inl h ↦ absurd (ne h.1) | inr h ↦ h.0 ]

-- a byte passes the test for itself
pub same_passes : (c : ℕ) → eqb c c ≡ true
same_passes c = elim (eqb_tells c c) [ inl h ↦ h.0 | inr h ↦ absurd (h.1 refl) ]

pub free_before : (c n : ℕ) (bs : List ℕ) → n ≤ length bs → ((k : ℕ) → k < n → get_or bs k 0 ≡ c → ⊥) → All (λ b. b ≢ c) (take n bs)
free_before c n bs w h = All-from_get_or (λ b. b ≢ c) (take n bs) 0 (λ i l. let small : i < n = omega (arith, length-take n bs) in rw (get_or-take n bs i 0 small) (h i small))

pub free_fails : (c : ℕ) (bs : List ℕ) → All (λ b. b ≢ c) bs → All (λ b. eqb b c ≡ false) bs
free_fails c bs h = All-weaker (λ b. b ≢ c) (λ b. eqb b c ≡ false) (other_fails c) bs h

pub one_part : (c : ℕ) (bs : List ℕ) → All (λ b. b ≢ c) bs → slice_split (λ b. eqb b c) bs ≡ bs ∷ []
one_part c bs h = slice_split_none (λ b. eqb b c) bs (free_fails c bs h)

-- a list from the place of an element is that element and the rest
pub cut_at : (c n : ℕ) (bs : List ℕ) → n < length bs → get_or bs n 0 ≡ c → bs ≡ take n bs ++ c ∷ drop (n + 1) bs
cut_at c n bs l e = sym (take-append-drop n bs) ∙ ap (λ t. take n bs ++ t) (rw (add-one, ← e) (drop-cons bs n 0 l))

pub first_part : (c n : ℕ) (bs : List ℕ) → n < length bs → All (λ b. b ≢ c) (take n bs) → get_or bs n 0 ≡ c → slice_split (λ b. eqb b c) bs ≡ take n bs ∷ slice_split (λ b. eqb b c) (drop (n + 1) bs)
first_part c n bs l h e = ap (slice_split (λ b. eqb b c)) (cut_at c n bs l e) ∙ slice_split_at (λ b. eqb b c) (take n bs) c (drop (n + 1) bs) (free_fails c (take n bs) h) (same_passes c)

pub split-join : (c : ℕ) (words : List (List ℕ)) → 0 < length words → All (All (λ b. b ≢ c)) words → slice_split (λ b. eqb b c) (join_with_byte c words) ≡ words
split-join c [] l h = absurd (omega arith)
split-join c (w ∷ []) l h = one_part c w (All-head (All (λ b. b ≢ c)) w [] h)
split-join c (w ∷ x ∷ ws) l h = slice_split_at (λ b. eqb b c) w c (join_with_byte c (x ∷ ws)) (free_fails c w (All-head (All (λ b. b ≢ c)) w (x ∷ ws) h)) (same_passes c)
    ∙ ap (λ t. w ∷ t) (split-join c (x ∷ ws) (omega arith) (All-tail (All (λ b. b ≢ c)) w (x ∷ ws) h))

-- a line has at least one word
pub words_of_done : (done : Bool) (bs : List ℕ) (words : List (List ℕ)) → cond done [] (slice_split (λ b. eqb b 32) bs) ≡ words → MatchBool done (words ≡ []) (words ≢ [])
words_of_done true bs words e = sym e
words_of_done false bs words e = λ z. let h : slice_split (λ b. eqb b 32) bs ≡ [] = e ∙ z in omega (arith, length-slice_split (λ b. eqb b 32) bs, ap length h)

-- what stands before the first c, and what stands behind it
pub cut_once : (c : ℕ) (a b x y : List ℕ) → All (λ k. k ≢ c) a → All (λ k. k ≢ c) b → a ++ (c ∷ x) ≡ b ++ (c ∷ y) → (a ≡ b) × (x ≡ y)
cut_once c [] [] x y p q e = (refl, cc)
cut_once c [] (k ∷ b) x y p q e = absurd (All-head (λ z. z ≢ c) k b q (sym cc))
cut_once c (k ∷ a) [] x y p q e = absurd (All-head (λ z. z ≢ c) k a p (cc))
cut_once c (k ∷ a) (j ∷ b) x y p q e =
    let h : k ≡ j = cc in
    let t : a ++ (c ∷ x) ≡ b ++ (c ∷ y) = cc in
    let r = cut_once c a b x y (All-tail (λ z. z ≢ c) k a p) (All-tail (λ z. z ≢ c) j b q) t in
    let u = r.0 in
    (cc, r.1)
