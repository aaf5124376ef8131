-- What a loop over rising numbers brings.
use Rattle.std.proofs.Common.{◌≡◌, ℕ, ◌+◌, ◌<◌, inl, inr, List, [], ◌∷◌, ◌++◌, subst, arith}
use Rattle.std.specs.Prelude.{Contains}
use Rattle.std.proofs.lemmas.List.Elements.{Contains-push, Contains-push_cases, Contains-append_left}
use Rattle.joint_marking.specs.Gathered.{Gains, IsBrought}
use Rattle.joint_machine.proofs.Members.{last-or}

-- nothing is brought yet
pub gains-none : (brings : ℕ → ℕ → Type 0) (n : ℕ) (old : List ℕ) → ((i k : ℕ) → i < n → brings i k → ⊥) → Gains (IsBrought brings n) old old
gains-none brings n old none k = (λ c. inl c, elim [ inl c ↦ c | inr w ↦ absurd (none w.by k w.below w.brings_it) ])

brought-later : (brings : ℕ → ℕ → Type 0) (n k : ℕ) → IsBrought brings n k → IsBrought brings (n + 1) k
brought-later brings n k w = record { by = w.by; below = omega (arith, w.below); brings_it = w.brings_it }

-- the next one brings a number
pub gains-push : (brings : ℕ → ℕ → Type 0) (n q : ℕ) (old now : List ℕ) → brings n q → ((k : ℕ) → brings n k → q ≡ k)
    → Gains (IsBrought brings n) old now → Gains (IsBrought brings (n + 1)) old (now ++ q ∷ [])
gains-push brings n q old now b one g k = (
  λ c. elim (Contains-push_cases now q k c) [
    | inl h ↦ elim ((g k).0 h) [ inl o ↦ inl o | inr w ↦ inr (brought-later brings n k w) ]
    | inr e ↦ inr (record { by = n; below = omega arith; brings_it = subst (brings n) e b })
  ],
  elim [
    | inl o ↦ Contains-append_left now (q ∷ []) k ((g k).1 (inl o))
    | inr w ↦ elim (last-or w.by n w.below) [
      | inl l ↦ Contains-append_left now (q ∷ []) k ((g k).1 (inr (record { by = w.by; below = l; brings_it = w.brings_it })))
      | inr e ↦ subst (λ z. Contains (now ++ q ∷ []) z) (one k (subst (λ i. brings i k) e w.brings_it)) (Contains-push now q)
    ]
  ],
)

-- the next one brings nothing
pub gains-skip : (brings : ℕ → ℕ → Type 0) (n : ℕ) (old now : List ℕ) → ((k : ℕ) → brings n k → ⊥) → Gains (IsBrought brings n) old now → Gains (IsBrought brings (n + 1)) old now
gains-skip brings n old now none g k = (
  λ c. elim ((g k).0 c) [ inl o ↦ inl o | inr w ↦ inr (brought-later brings n k w) ],
  elim [
    | inl o ↦ (g k).1 (inl o)
    | inr w ↦ elim (last-or w.by n w.below) [
      | inl l ↦ (g k).1 (inr (record { by = w.by; below = l; brings_it = w.brings_it }))
      | inr e ↦ absurd (none k (subst (λ i. brings i k) e w.brings_it))
    ]
  ],
)

-- all were asked
pub gains-all : (brings : ℕ → ℕ → Type 0) (n : ℕ) (old now : List ℕ) → ((i k : ℕ) → brings i k → i < n) → Gains (IsBrought brings n) old now → Gains (λ k. (i : ℕ) × brings i k) old now
gains-all brings n old now within g k = (
  λ c. elim ((g k).0 c) [ inl o ↦ inl o | inr w ↦ inr (w.by, w.brings_it) ],
  elim [ inl o ↦ (g k).1 (inl o) | inr w ↦ (g k).1 (inr (record { by = w.0; below = within w.0 k w.1; brings_it = w.1 })) ],
)
