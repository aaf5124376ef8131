-- What the registry answers for a peer, and which pairs stay where some rows' are left out.
use Rattle.std.proofs.Common.{◌≡◌, ℕ, inl, inr, Bool, true, false, not, List, [], ◌∷◌, Option, Some, None, refl, sym, ap, subst, ◌∙◌, nat_eq}
use Rattle.std.specs.Prelude.{Contains, if◌then◌else◌}
use Rattle.std.specs.List.{list_any}
use Rattle.std.proofs.lemmas.Bool.{eqb-true}
use Rattle.std.proofs.lemmas.Bool.Decides.{Decides-eqb}
use Rattle.std.proofs.lemmas.Option.{same_Some}
use Rattle.std.proofs.lemmas.Map.Views.{list_any-from_Contains, Contains-from_any}
use Rattle.std.proofs.lemmas.Cmp.{nat_eq_equiv}
use Rattle.joint_machine.specs.ManagedReplay.{registered, without_twins}
use Rattle.joint_machine.proofs.Members.{Contains-nil, Contains-here, Contains-there, Contains-cons_cases, Contains-filter_from, Contains-filter_to}

abbrev answered : ℕ × ℕ → List (ℕ × ℕ) → ℕ → Bool → Option ℕ
answered pair pairs p b = if b then Some pair.1 else registered pairs p

pub registered-some : (pairs : List (ℕ × ℕ)) (p m : ℕ) → registered pairs p ≡ Some m → Contains pairs (p, m)
registered-some [] p m e = (let f : ⊥ = cc in absurd f)
registered-some (pair ∷ pairs) p m e = by (nat_eq pair.0 p) refl e (λ w. registered-some pairs p m w)
  where
    by : (b : Bool) → nat_eq pair.0 p ≡ b → answered pair pairs p b ≡ Some m → (registered pairs p ≡ Some m → Contains pairs (p, m)) → Contains (pair ∷ pairs) (p, m)
    by true q w rest =
        let same : (pair.0, pair.1) ≡ (p, m) = λ i. ((Decides-eqb pair.0 p).0 q i, same_Some pair.1 m w i) in
        subst (λ z. Contains (pair ∷ pairs) z) same (Contains-here pair pairs)
    by false q w rest = Contains-there (p, m) pair pairs (rest w)

pub registered-none : (pairs : List (ℕ × ℕ)) (p m : ℕ) → registered pairs p ≡ None → Contains pairs (p, m) → ⊥
registered-none [] p m e c = Contains-nil (p, m) c
registered-none (pair ∷ pairs) p m e c = by (nat_eq pair.0 p) refl e (λ w d. registered-none pairs p m w d)
  where
    by : (b : Bool) → nat_eq pair.0 p ≡ b → answered pair pairs p b ≡ None → (registered pairs p ≡ None → Contains pairs (p, m) → ⊥) → ⊥
    by true q w rest = cc
    by false q w rest = elim (Contains-cons_cases pair pairs (p, m) c) [
      | inl s ↦ (let t : true ≡ false = sym ((Decides-eqb pair.0 p).1 (ap (λ (z : ℕ × ℕ). z.0) s)) ∙ q in cc)
      | inr d ↦ rest w d
    ]

not-any : (xs : List ℕ) (x : ℕ) (b : Bool) → list_any (nat_eq x) xs ≡ b → not b ≡ true → Contains xs x → ⊥
not-any xs x true e n c = cc
not-any xs x false e n c = (let t : true ≡ false = sym (list_any-from_Contains nat_eq_equiv x xs c) ∙ e in cc)

-- the pairs that stay were there, and their row isn't in the list
pub without_twins-parts : (pairs : List (ℕ × ℕ)) (ms : List ℕ) (p m : ℕ) → Contains (without_twins pairs ms) (p, m) → Contains pairs (p, m) × (Contains ms m → ⊥)
without_twins-parts pairs ms p m c =
    let r = Contains-filter_from (λ (pair : ℕ × ℕ). not (list_any (nat_eq pair.1) ms)) pairs (p, m) c in
    (r.0, not-any ms m (list_any (nat_eq m) ms) refl r.1)

not-any-true : (xs : List ℕ) (x : ℕ) (b : Bool) → list_any (nat_eq x) xs ≡ b → (Contains xs x → ⊥) → not b ≡ true
not-any-true xs x false e n = refl
not-any-true xs x true e n = absurd (n (Contains-from_any eqb-true x xs e))

pub without_twins-keeps : (pairs : List (ℕ × ℕ)) (ms : List ℕ) (p m : ℕ) → Contains pairs (p, m) → (Contains ms m → ⊥) → Contains (without_twins pairs ms) (p, m)
without_twins-keeps pairs ms p m c n = Contains-filter_to (λ (pair : ℕ × ℕ). not (list_any (nat_eq pair.1) ms)) pairs (p, m) c (not-any-true ms m (list_any (nat_eq m) ms) refl n)
