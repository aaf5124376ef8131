-- Of two references, one to a temporary and one from it, whatever walks over them comes to where the second leads.
use Rattle.std.proofs.Common.{◌≡◌, ℕ, ◌⊎◌, inl, inr, List, [], ◌∷◌, ap, subst}
use Rattle.std.specs.Prelude.{Contains}
use Rattle.joint_machine.specs.Components.{End, node, temporary}
use Rattle.joint_machine.specs.PeerReplay.{LeadsOver, Refers}
use Rattle.joint_machine.proofs.Members.{Contains-cons_cases, Contains-nil}

pub over-ends : (refs : List (End × End)) (x y : ℕ) → refs ≡ (node x, temporary 0) ∷ (temporary 0, node y) ∷ [] → (p q : ℕ) → Refers refs p q → y ≡ q
over-ends refs x y is p q r = by (node p) r.through r.walk
  where
    to : (e f : End) → Contains refs (e, f) → (temporary 0 ≡ f) ⊎ (node y ≡ f)
    to e f c = elim (Contains-cons_cases (node x, temporary 0) ((temporary 0, node y) ∷ []) (e, f) (subst (λ l. Contains l (e, f)) is c)) [
      | inl one ↦ inl (ap (λ (d : End × End). d.1) one)
      | inr rest ↦ elim (Contains-cons_cases (temporary 0, node y) [] (e, f) rest) [ inl two ↦ inr (ap (λ (d : End × End). d.1) two) | inr none ↦ absurd (Contains-nil (e, f) none) ]
    ]

    by : (e : End) (through : List ℕ) → LeadsOver refs e through q → y ≡ q
    by e [] w = elim (to e (node q) w) [ inl other ↦ (let f : ⊥ = cc in absurd f) | inr same ↦ (let s : y ≡ q = cc in s) ]
    by e (t ∷ ts) w = by (temporary t) ts w.1
