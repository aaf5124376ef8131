-- What the number of a set stands for, and that it stands for the same where lists are put behind.
use Rattle.std.proofs.Common.{◌≡◌, ◌↔◌, ℕ, ◌+◌, ◌-◌, ◌<◌, ◌≤◌, true, false, List, [], ◌∷◌, ◌++◌, length, nat_lt, refl, sym, ◌∙◌, ap, subst, arith, inl, inr}
use Rattle.std.proofs.lemmas.List.{get_or_push}
use Rattle.std.proofs.lemmas.List.Elements.{All-nil, Contains-push, Contains-push_cases}
use Rattle.std.proofs.lemmas.Bool.{cases_lt}
use Rattle.std.proofs.lemmas.Bool.Decides.{nat_tests}
use Rattle.std.specs.List.{All, Contains}
use Rattle.joint_machine.specs.Components.{Rises}
use Rattle.bridge_graph.specs.Parts.{row_at}
use Rattle.component_pass.specs.Gathering.{set_at}

pub set-one : (count : ℕ) (lists : List (List ℕ)) (s : ℕ) → s < count → set_at count lists s ≡ s ∷ []
set-one count lists s lt = let t : nat_lt s count ≡ true = grind (arith, nat_tests) in rw t refl

pub set-list : (count : ℕ) (lists : List (List ℕ)) (s : ℕ) → count ≤ s → set_at count lists s ≡ row_at lists (s - count)
set-list count lists s ge = let t : nat_lt s count ≡ false = grind (arith, nat_tests) in rw t refl

pub set-kept : (count : ℕ) (before after : List (List ℕ)) (s : ℕ) → s < count + length before → ((k : ℕ) → k < length before → row_at after k ≡ row_at before k)
    → set_at count after s ≡ set_at count before s
set-kept count before after s lt kept =
    elim (cases_lt s count) [
      | inl one ↦ set-one count after s one ∙ sym (set-one count before s one)
      | inr ge ↦ set-list count after s ge ∙ kept (s - count) (omega (arith, ge, lt)) ∙ sym (set-list count before s ge)
    ]

pub set-rises : (lists : List (List ℕ)) (count s : ℕ) → All Rises lists → s < count + length lists → Rises (set_at count lists s)
set-rises lists count s rising lt =
    elim (cases_lt s count) [
      | inl one ↦ rw (set-one count lists s one) (All-nil (λ y. s < y), tt)
      | inr ge ↦ rw (set-list count lists s ge) (rising (s - count) [] (omega (arith, ge, lt)))
    ]

pub set-last : (count : ℕ) (lists : List (List ℕ)) (union : List ℕ) → set_at count (lists ++ union ∷ []) (count + length lists) ≡ union
set-last count lists union =
    set-list count (lists ++ union ∷ []) (count + length lists) (omega arith) ∙ get_or_push lists union [] (count + length lists - count) (omega arith)

-- the first list is the empty set
pub set-none : (count : ℕ) (lists : List (List ℕ)) → row_at lists 0 ≡ [] → set_at count lists count ≡ []
set-none count lists none = set-list count lists count (omega arith) ∙ ap (λ (k : ℕ). row_at lists k) (let e : count - count ≡ 0 = omega arith in e) ∙ none

pub one_is : (i j : ℕ) → Contains (i ∷ []) j ↔ (i ≡ j)
one_is i j = (
  (λ c. elim (Contains-push_cases [] i j c) [ inl n ↦ absurd (omega (arith, n.1)) | inr e ↦ e ]),
  (λ e. subst (λ (k : ℕ). Contains (i ∷ []) k) e (Contains-push [] i)),
)
