-- A list rises exactly where each number is larger than the one before it.
use Rattle.std.proofs.Common.{◌≡◌, ℕ, zero, suc, ◌+◌, ◌<◌, ◌≤◌, List, [], ◌∷◌, length, get_or, subst, ◌-◌, arith}
use Rattle.std.specs.Prelude.{All}
use Rattle.std.proofs.lemmas.List.Elements.{All-nil, All-cons, All-head, All-contains}
use Rattle.joint_machine.specs.Components.{Rises}
use Rattle.joint_machine.proofs.Members.{All-members}

pub Rises-step : (xs : List ℕ) (i : ℕ) → Rises xs → suc i < length xs → get_or xs i 0 < get_or xs (suc i) 0
Rises-step [] i r l = absurd (omega (arith, l))
Rises-step (x ∷ []) i r l = absurd (omega (arith, l))
Rises-step (x ∷ y ∷ ys) zero r l = All-head (λ z. x < z) y ys r.0
Rises-step (x ∷ y ∷ ys) (suc i) r l = Rises-step (y ∷ ys) i r.1 (omega (arith, l))

above : (x y : ℕ) (ys : List ℕ) → x < y → All (λ z. y < z) ys → All (λ z. x < z) (y ∷ ys)
above x y ys l a = All-cons (λ z. x < z) y ys l (All-members (λ z. x < z) ys (λ z c. (let m : y < z = All-contains (λ w. y < w) ys z a c in omega (arith, l, m))))

pub Rises-steps : (xs : List ℕ) → ((i : ℕ) → suc i < length xs → get_or xs i 0 < get_or xs (suc i) 0) → Rises xs
Rises-steps [] h = tt
Rises-steps (x ∷ []) h = (All-nil (λ z. x < z), tt)
Rises-steps (x ∷ y ∷ ys) h =
    let rest : Rises (y ∷ ys) = Rises-steps (y ∷ ys) (λ i l. h (suc i) (omega (arith, l))) in
    (above x y ys (h 0 (omega arith)) rest.0, rest)

-- the same, with the index of the later number
pub Rises-at : (xs : List ℕ) (i : ℕ) → Rises xs → 1 ≤ i → i < length xs → get_or xs (i - 1) 0 < get_or xs i 0
Rises-at xs zero r low l = absurd (omega (arith, low))
Rises-at xs (suc i) r low l = (let e : suc i - 1 ≡ i = omega arith in rw e (Rises-step xs i r l))

pub Rises-below : (xs : List ℕ) (n : ℕ) → length xs ≤ n → ((k : ℕ) → k + 1 < n → get_or xs k 0 < get_or xs (k + 1) 0) → Rises xs
Rises-below xs n l h = Rises-steps xs (λ i w. (let e : i + 1 ≡ suc i = omega arith in subst (λ z. get_or xs i 0 < get_or xs z 0) e (h i (omega (arith, w, l)))))
