-- Few fields stand in two places, of which those after the fields are empty. So what the places hold is what the fields
-- hold.
use Rattle.std.proofs.Common.{◌≡◌, ℕ, zero, suc, ◌≤◌, ◌⊎◌, inl, inr, List, [], ◌∷◌, take, drop, get_or, Option, Some, None, sym, subst, arith}
use Rattle.std.specs.Prelude.{All, Contains}
use Rattle.std.proofs.lemmas.List.{take-append-drop}
use Rattle.std.proofs.lemmas.List.Elements.{All-contains, Contains-append_cases}
use Rattle.joint_machine.proofs.Members.{Contains-nil, Contains-here, Contains-there, Contains-cons_cases}

-- what a place holds is among the fields
pub place-held : (cells : List (Option ℕ)) (i y : ℕ) → get_or cells i None ≡ Some y → Contains cells (Some y)
place-held [] i y e = absurd (let f : ⊥ = cc in f)
place-held (c ∷ cells) zero y e = subst (Contains (c ∷ cells)) e (Contains-here c cells)
place-held (c ∷ cells) (suc i) y e = Contains-there (Some y) c cells (place-held cells i y e)

pub few-held : (len : ℕ) (cells : List (Option ℕ)) (i y : ℕ) → All (λ c. c ≡ None) (drop len cells) → get_or cells i None ≡ Some y → Contains (take len cells) (Some y)
few-held len cells i y rest e =
    elim (Contains-append_cases (take len cells) (drop len cells) (Some y) (subst (λ l. Contains l (Some y)) (sym (take-append-drop len cells)) (place-held cells i y e))) [
      | inl w ↦ w
      | inr w ↦ (let none : Some y ≡ None = All-contains (λ c. c ≡ None) (drop len cells) (Some y) rest w in absurd (let f : ⊥ = cc in f))
    ]

-- a field is in one of the two places
pub few-places : (len : ℕ) (cells : List (Option ℕ)) (y : ℕ) → len ≤ 2 → Contains (take len cells) (Some y) → (get_or cells 0 None ≡ Some y) ⊎ (get_or cells 1 None ≡ Some y)
few-places zero cells y le h = absurd (Contains-nil (Some y) h)
few-places (suc n) [] y le h = absurd (Contains-nil (Some y) h)
few-places (suc zero) (c ∷ cells) y le h = elim (Contains-cons_cases c [] (Some y) h) [ inl w ↦ inl w | inr w ↦ absurd (Contains-nil (Some y) w) ]
few-places (suc (suc n)) (c ∷ []) y le h = elim (Contains-cons_cases c [] (Some y) h) [ inl w ↦ inl w | inr w ↦ absurd (Contains-nil (Some y) w) ]
few-places (suc (suc n)) (c ∷ d ∷ cells) y le h = elim (Contains-cons_cases c (d ∷ take n cells) (Some y) h) [
  | inl w ↦ inl w
  | inr w ↦ elim (Contains-cons_cases d (take n cells) (Some y) w) [
    | inl v ↦ inr v
    | inr v ↦ (let e : n ≡ 0 = omega (arith, le) in absurd (Contains-nil (Some y) (subst (λ k. Contains (take k cells) (Some y)) e v)))
  ]
]
