-- The stretches of two lists that a span names are the same exactly where both lists have the same at each of its
-- places.
use Rattle.std.proofs.Common.{◌≡◌, ⊎_elim, ℕ, ◌+◌, ◌-◌, ◌<◌, ◌≤◌, Bool, true, false, IsTrue, List, length, get_or, take, drop, Some, refl, sym, ap, subst, ◌∙◌, arith, length-take, length-drop}
use Rattle.std.proofs.Common.{get_or-drop, true≢false}
use Rattle.std.specs.Prelude.{◌↔◌, map, slice_get}
use Rattle.std.specs.Option.{option_map}
use Rattle.std.proofs.lemmas.Bool.{cases_lt}
use Rattle.std.proofs.lemmas.List.{get_or-take, take_rest}
use Rattle.std.proofs.lemmas.Option.{slice_get-get_or, slice_get-map}
use Rattle.joint_machine.specs.declared.names.Span.{Span}
use Rattle.joint_machine.specs.Histories.{IsWithin, stretch}
use Rattle.joint_machine.proofs.Joining.{same_by_places}
use Rattle.joint_laws.specs.Spans.{IsStretch}
use Rattle.run_check.specs.Lists.{rest_of, StandsInList}

-- a place of a list of numbers
pub mapped_place : {X : Type 0} (f : X → ℕ) (xs : List X) (i : ℕ) (d : X) → i < length xs → slice_get (map f xs) i ≡ Some (f (get_or xs i d))
mapped_place f xs i d l = slice_get-map f xs i ∙ ap (option_map f) (slice_get-get_or xs i d l)

-- the lists have the same at each place from one to another
abbrev pub AreAlikeFrom : List ℕ → List ℕ → ℕ → ℕ → Type 0
AreAlikeFrom xs ys first i = (k : ℕ) → first ≤ k → k < i → slice_get xs k ≡ slice_get ys k

-- a place of a stretch is one of the list
stretch_at : (xs : List ℕ) (s : Span) (k : ℕ) → IsWithin s (length xs) → k < s.count → slice_get (stretch xs s) k ≡ slice_get xs (s.first + k)
stretch_at xs s k w l =
    let d = length-drop s.first xs in
    let t = length-take s.count (drop s.first xs) in
    slice_get-get_or (stretch xs s) k 0 (omega (arith, d, t, w, l))
    ∙ ap Some (get_or-take s.count (drop s.first xs) k 0 l ∙ get_or-drop s.first xs k 0)
    ∙ sym (slice_get-get_or xs (s.first + k) 0 (omega (arith, w, l)))

stretch_length : (xs : List ℕ) (s : Span) → IsWithin s (length xs) → length (stretch xs s) ≡ s.count
stretch_length xs s w = (let d = length-drop s.first xs in let t = length-take s.count (drop s.first xs) in omega (arith, d, t, w))

module _ (xs ys : List ℕ) (s : Span) (w : IsWithin s (length ys)) where
  -- each place was compared
  pub stretch_told : IsWithin s (length xs) → AreAlikeFrom xs ys s.first (s.first + s.count) → IsStretch xs s (stretch ys s)
  stretch_told v alike = record {
    within = v;
    named = same_by_places (stretch ys s) (stretch xs s) (stretch_length ys s w ∙ sym (stretch_length xs s v)) (λ k l.
        let m : k < s.count = (let e = stretch_length ys s w in omega (arith, e, l)) in
        stretch_at ys s k w m ∙ (sym (alike (s.first + k) (omega arith) (omega (arith, m))) ∙ sym (stretch_at xs s k v m)));
  }

  -- a stretch has each place
  pub told_at : IsStretch xs s (stretch ys s) → (i : ℕ) → s.first ≤ i → i < s.first + s.count → slice_get xs i ≡ slice_get ys i
  told_at st i low high =
      let m : i - s.first < s.count = omega (arith, low, high) in
      let e : s.first + (i - s.first) ≡ i = omega (arith, low) in
      ap (slice_get xs) (sym e) ∙ (sym (stretch_at xs s (i - s.first) st.within m) ∙ (ap (λ zs. slice_get zs (i - s.first)) (sym st.named) ∙ (stretch_at ys s (i - s.first) w m ∙ ap (slice_get ys) e)))

  -- the answer where a place differs
  pub told_no : (i : ℕ) → s.first ≤ i → i < s.first + s.count → (slice_get xs i ≡ slice_get ys i → ⊥) → IsTrue false ↔ IsStretch xs s (stretch ys s)
  told_no i low high differ = (λ t. absurd (true≢false (sym t)), λ st. absurd (differ (told_at st i low high)))

-- one place more was compared
pub alike_more : (xs ys : List ℕ) (first i : ℕ) → AreAlikeFrom xs ys first i → slice_get xs i ≡ slice_get ys i → AreAlikeFrom xs ys first (i + 1)
alike_more xs ys first i alike e k low high = ⊎_elim (λ (less : k < i). alike k low less)
    (λ (more : i ≤ k). let q : i ≡ k = omega (arith, more, high) in subst (λ j. slice_get xs j ≡ slice_get ys j) q e) (cases_lt k i)

-- what a list has from the span's first place on is the stretch of the span that ends where the list does
module _ (xs ys : List ℕ) (s : Span) (w : s.first ≤ length ys) where
  to_end : IsWithin (rest_of s (length ys)) (length ys)
  to_end = omega (arith, w)

  as_rest : (b : Bool) → IsTrue b ↔ IsStretch xs (rest_of s (length ys)) (stretch ys (rest_of s (length ys))) → IsTrue b ↔ StandsInList xs s ys
  as_rest b q = subst (λ zs. IsTrue b ↔ IsStretch xs (rest_of s (length ys)) zs) (take_rest ys s.first) q

  pub rest_told : length ys ≤ length xs → AreAlikeFrom xs ys s.first (length ys) → IsTrue true ↔ StandsInList xs s ys
  rest_told l alike =
      let e : s.first + (length ys - s.first) ≡ length ys = omega (arith, w) in
      as_rest true (λ t. stretch_told xs ys (rest_of s (length ys)) to_end (omega (arith, w, l)) (subst (AreAlikeFrom xs ys s.first) (sym e) alike), λ st. refl)

  pub rest_no : (i : ℕ) → s.first ≤ i → i < length ys → (slice_get xs i ≡ slice_get ys i → ⊥) → IsTrue false ↔ StandsInList xs s ys
  rest_no i low high differ = as_rest false (told_no xs ys (rest_of s (length ys)) to_end i low (omega (arith, low, high)) differ)
