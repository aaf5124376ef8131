-- Components are written one behind another.
use Rattle.std.proofs.Common.{◌≡◌, ℕ, zero, suc, ◌+◌, ◌<◌, ◌≤◌, inl, inr, List, [], ◌∷◌, ◌++◌, length, take, set, slice_get, Some, replicate, append_assoc, sym, ap, subst, ◌∙◌, arith}
use Rattle.std.proofs.lemmas.List.{append-nil, length-append, length-replicate, get_or-replicate}
use Rattle.std.proofs.lemmas.Option.{slice_get-get_or}
use Rattle.joint_machine.proofs.Members.{last-or, take-next}
use Rattle.joint_machine.proofs.Numbered.{set-at_other, set-at_here}
use Rattle.pass_c.specs.Found.{all_of, flat}

flat-more : (xss : List (List ℕ)) (xs : List ℕ) → flat (xss ++ xs ∷ []) ≡ flat xss ++ xs
flat-more [] xs = append-nil xs
flat-more (ys ∷ xss) xs = ap (λ z. ys ++ z) (flat-more xss xs) ∙ sym (append_assoc ys (flat xss) xs)

pub flat-next : (comps : List (List ℕ)) (c : ℕ) (row : List ℕ) → slice_get comps c ≡ Some row → flat (take (c + 1) comps) ≡ flat (take c comps) ++ row
flat-next comps c row e = ap flat (take-next comps c row e) ∙ flat-more (take c comps) row

pub flat-part : (comps : List (List ℕ)) (c : ℕ) → length (flat (take c comps)) ≤ length (flat comps)
flat-part [] zero = omega arith
flat-part [] (suc c) = omega arith
flat-part (m ∷ comps) zero = omega arith
flat-part (m ∷ comps) (suc c) = (let e = flat-part comps c in let a = length-append m (flat (take c comps)) in let b = length-append m (flat comps) in omega (arith, e, a, b))

-- a row has room behind those before it, where all rows have
pub flat-within : (comps : List (List ℕ)) (c : ℕ) (row : List ℕ) → slice_get comps c ≡ Some row → length (flat (take c comps)) + length row ≤ length (flat comps)
flat-within comps c row e =
    let n = ap length (flat-next comps c row e) in
    let a = length-append (flat (take c comps)) row in
    let p = flat-part comps (c + 1) in
    omega (arith, n, a, p)

-- one start more
pub starts-next : (comps : List (List ℕ)) (starts : List ℕ) (c v : ℕ) → c < length starts → v ≡ length (flat (take c comps))
    → ((k : ℕ) → k < c → slice_get starts k ≡ Some (length (flat (take k comps))))
    → (k : ℕ) → k < c + 1 → slice_get (set starts c v) k ≡ Some (length (flat (take k comps)))
starts-next comps starts c v w e h k l = elim (last-or k c l) [
  | inl m ↦ set-at_other starts c k v (λ s. omega (arith, m, s)) ∙ h k m
  | inr s ↦ subst (λ n. slice_get (set starts c v) n ≡ Some (length (flat (take n comps)))) (sym s) (set-at_here starts c v w ∙ ap Some e)
]

pub all-count : (comps : List (List ℕ)) (heavy : ℕ) → length (all_of comps heavy) ≡ length comps + heavy
all-count comps heavy = length-append comps (replicate heavy []) ∙ ap (λ n. length comps + n) (length-replicate {A = List ℕ} heavy [])

-- what is answered as the members of a component stands at its place
pub all-at : (comps : List (List ℕ)) (heavy c : ℕ) (row : List ℕ) → c < length comps + heavy → (c < length comps → slice_get comps c ≡ Some row) → (length comps ≤ c → row ≡ [])
    → slice_get (all_of comps heavy) c ≡ Some row
all-at [] heavy c row l a b =
    let e : row ≡ [] = b (omega arith) in
    slice_get-get_or (replicate heavy []) c [] (omega (arith, l, length-replicate {A = List ℕ} heavy [])) ∙ ap Some (get_or-replicate heavy c [] [] (omega (arith, l)) ∙ sym e)
all-at (m ∷ comps) heavy zero row l a b = a (omega arith)
all-at (m ∷ comps) heavy (suc c) row l a b = all-at comps heavy c row (omega (arith, l)) (λ k. a (omega (arith, k))) (λ k. b (omega (arith, k)))
