-- The first row leads to the second too.
use Rattle.std.proofs.Common.{◌≡◌, ◌+◌, ◌%◌, ◌⊎◌, inl, inr}
use Rattle.row_marking.proofs.Greys.{Greyed-then}
use Rattle.store_tests.proofs.markings.FiveTraced.scan.Goals as goal

pub returns-then-x-eq1-clause-greyed : goal.returns-then-x-eq1-clause-greyed
returns-then-x-eq1-clause-greyed c =
    let x = c.args.x in
    Greyed-then (λ y. y ≡ x % 3 + 3) (λ y. y ≡ 2) (λ y. (y ≡ x % 3 + 3) ⊎ ((x ≡ 1) × (y ≡ 2))) _ _ _ _ _ _ _ _ _
    (λ y w. elim w [ inl v ↦ inl v | inr v ↦ inr v.1 ]) (λ y w. inl w) (λ y w. inr (c.if-x-eq1.true, w)) c.see.ensures c.see-then-x-eq1.ensures
