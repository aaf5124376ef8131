-- Tarjan's algorithm takes no node's mark away.
use Rattle.std.proofs.Common.{◌≡◌, ◌≢◌, ◌⊎◌, ℕ, ◌+◌, ◌-◌, ◌<◌, ◌≤◌, List, length, get_or, set, sym, ◌∙◌, ap, subst, arith, inl, inr}
use Rattle.std.proofs.lemmas.List.{get_or-set_same, get_or-set_other, get_or_past}
use Rattle.std.proofs.lemmas.List.Elements.{Contains-get_or}
use Rattle.std.proofs.lemmas.Bool.{cases_lt, cases_eq}
use Rattle.std.specs.List.{Contains}
use Rattle.component_pass.specs.Tarjan.{done_mark}

-- no mark is lost where a node is put on the stack
pub entered-kept : (marks new : List ℕ) (w at : ℕ) → new ≡ set marks w (at + 1) → (x : ℕ) → get_or marks x 0 ≢ 0 → get_or new x 0 ≢ 0
entered-kept marks new w at is x some none = elim (cases_eq x w) [
  | inl e ↦ elim (cases_lt w (length marks)) [
    | inl l ↦ absurd (omega (arith, none, ap (λ (y : ℕ). get_or new y 0) e, ap (λ (xs : List ℕ). get_or xs w 0) is, get_or-set_same marks w (at + 1) 0 l))
    | inr past ↦ some (get_or_past marks x 0 (omega (arith, e, past)))
  ]
  | inr ne ↦ some (sym (ap (λ (xs : List ℕ). get_or xs x 0) is ∙ get_or-set_other marks w x (at + 1) 0 ne) ∙ none)
]

-- nor where a class is complete
pub closed-kept : (at : ℕ) (stack marks new : List ℕ) → length stack < done_mark
    → ((x : ℕ) → (get_or marks x 0 ≡ 0) ⊎ ((0 < get_or marks x 0) × (get_or marks x 0 ≤ length stack) × (get_or stack (get_or marks x 0 - 1) 0 ≡ x)) ⊎ (get_or marks x 0 ≡ done_mark))
    → ((k : ℕ) → at ≤ k → k < length stack → get_or new (get_or stack k 0) 0 ≡ done_mark)
    → ((x : ℕ) → (get_or marks x 0 ≤ at) ⊎ (length stack < get_or marks x 0) → get_or new x 0 ≡ get_or marks x 0)
    → (x : ℕ) → get_or marks x 0 ≢ 0 → get_or new x 0 ≢ 0
closed-kept at stack marks new few known taken others x some none = elim (known x) [
  | inl z ↦ some z
  | inr more ↦ elim more [
    | inl p ↦ elim (cases_lt at (get_or marks x 0)) [
      | inl l ↦
          let t = taken (get_or marks x 0 - 1) (omega (arith, l)) (omega (arith, p.0, p.1)) in
          absurd (omega (arith, none, t, ap (λ (y : ℕ). get_or new y 0) p.2))
      | inr ge ↦ some (sym (others x (inl (omega (arith, ge)))) ∙ none)
    ]
    | inr d ↦ some (sym (others x (inr (omega (arith, d, few)))) ∙ none)
  ]
]

-- a value is written at each place that a list names, turn by turn
pub set-taken : {X : Type 0} (d : X) (class : List ℕ) (xs : List X) (at : ℕ) (v : X) (k : ℕ) → get_or class at 0 < length xs → k < at + 1 → (k < at → get_or xs (get_or class k 0) d ≡ v)
    → get_or (set xs (get_or class at 0) v) (get_or class k 0) d ≡ v
set-taken {X} d class xs at v k lt kl old = elim (cases_eq (get_or class k 0) (get_or class at 0)) [
  | inl e ↦ ap (λ (y : ℕ). get_or (set xs (get_or class at 0) v) y d) e ∙ get_or-set_same xs (get_or class at 0) v d lt
  | inr ne ↦ elim (cases_lt k at) [
    | inl l ↦ get_or-set_other xs (get_or class at 0) (get_or class k 0) v d ne ∙ old l
    | inr ge ↦ let is : k ≡ at = omega (arith, kl, ge) in absurd (ne (ap (λ (i : ℕ). get_or class i 0) is))
  ]
]

pub set-others : {X : Type 0} (d : X) (class : List ℕ) (xs before : List X) (at : ℕ) (v : X) (y : ℕ) → at < length class → (Contains class y → ⊥) → get_or xs y d ≡ get_or before y d
    → get_or (set xs (get_or class at 0) v) y d ≡ get_or before y d
set-others d class xs before at v y lt out old =
    get_or-set_other xs (get_or class at 0) y v d (λ e. out (subst (λ (z : ℕ). Contains class z) (sym e) (Contains-get_or class at 0 lt))) ∙ old
