-- Counts that are capped at twenty decide exactly which classes are heavy: both counts are at least 3, so one that is
-- at least 20 makes the product 60 whatever the other is; and where both are below 20 they are the numbers themselves.
use Rattle.std.proofs.Common.{ℕ, suc, ◌*◌, ◌<◌, ◌≤◌, List, [], ◌∷◌, length, refl, arith, mul-le-mul, inl, inr}
use Rattle.std.proofs.lemmas.Bool.{cases_lt}
use Rattle.std.proofs.lemmas.List.Elements.{All-contains}
use Rattle.std.specs.List.{All, Contains}
use Rattle.joint_machine.specs.Components.{Rises, IsPlainClass, IsHeavy, LeadsIn, LeadsOut}
use Rattle.joint_machine.proofs.Members.{Contains-cons_cases, Contains-nil}
use Rattle.component_pass.specs.Counting.{IsCount, cap}

-- rising numbers that all stand in another rising list are at most as many
pub rises_within : (xs ys : List ℕ) → Rises xs → Rises ys → ((z : ℕ) → Contains xs z → Contains ys z) → length xs ≤ length ys
rises_within [] ys rx ry h = omega arith
rises_within (x ∷ xs) [] rx ry h = absurd (Contains-nil x (h x (0, omega arith, refl)))
rises_within (x ∷ xs) (y ∷ ys) rx ry h =
    elim (Contains-cons_cases y ys x (h x (0, omega arith, refl))) [
      | inl e ↦
          let rest = rises_within xs ys rx.1 ry.1 (λ z c. elim (Contains-cons_cases y ys z (h z (suc c.0, omega (arith, c.1), c.2))) [
            | inl f ↦ absurd (omega (arith, e, f, All-contains (λ w. x < w) xs z rx.0 c))
            | inr d ↦ d
          ]) in
          omega (arith, rest)
      | inr d ↦
          let above = All-contains (λ w. y < w) ys x ry.0 d in
          let rest = rises_within (x ∷ xs) ys rx ry.1 (λ z c. elim (Contains-cons_cases y ys z (h z c)) [
            | inl f ↦ absurd (elim (Contains-cons_cases x xs z c) [
              | inl g ↦ omega (arith, f, g, above)
              | inr k ↦ omega (arith, f, above, All-contains (λ w. x < w) xs z rx.0 k)
            ])
            | inr k ↦ k
          ]) in
          omega (arith, rest)
    ]

-- a count is at least the length of any rising list of what is counted, or it is capped
pub count_least : (P : ℕ → Type 0) (many n : ℕ) (xs : List ℕ) → IsCount P many n → n < many → Rises xs → All P xs → length xs ≤ n
count_least P many n xs c lt r a =
    omega (arith, c.most lt, rises_within xs c.named r c.rise (λ z h. c.whole lt z (All-contains P xs z a h)))

module _ (bridge : ℕ → Type 0) (edge : ℕ → ℕ → Type 0) (x ins outs : ℕ)
    (i : IsCount (LeadsIn bridge edge x) cap ins) (o : IsCount (LeadsOut bridge edge x) cap outs) where
  pub heavy_of : IsPlainClass bridge edge x → 3 ≤ ins → 3 ≤ outs → 60 ≤ ins * outs → IsHeavy bridge edge x
  heavy_of p a b m = record {
    plain = p;
    ins = i.named;
    outs = o.named;
    ins_rise = i.rise;
    outs_rise = o.rise;
    lead_in = i.hold;
    lead_out = o.hold;
    some_in = omega (arith, i.least, a);
    some_out = omega (arith, o.least, b);
    many = omega (arith, m, mul-le-mul i.least o.least);
  }

  pub light_of : (3 ≤ ins → 3 ≤ outs → 60 ≤ ins * outs → ⊥) → IsHeavy bridge edge x → ⊥
  light_of few h =
      elim (cases_lt ins cap) [
        | inl few_in ↦
            let a = count_least (LeadsIn bridge edge x) cap ins h.ins i few_in h.ins_rise h.lead_in in
            elim (cases_lt outs cap) [
              | inl few_out ↦
                  let b = count_least (LeadsOut bridge edge x) cap outs h.outs o few_out h.outs_rise h.lead_out in
                  few (omega (arith, a, h.some_in)) (omega (arith, b, h.some_out)) (omega (arith, h.many, mul-le-mul a b))
              | inr many_out ↦
                  let three : 3 ≤ ins = omega (arith, a, h.some_in) in
                  few three (omega (arith, many_out)) (omega (arith, mul-le-mul three many_out))
            ]
        | inr many_in ↦
            elim (cases_lt outs cap) [
              | inl few_out ↦
                  let b = count_least (LeadsOut bridge edge x) cap outs h.outs o few_out h.outs_rise h.lead_out in
                  let three : 3 ≤ outs = omega (arith, b, h.some_out) in
                  few (omega (arith, many_in)) three (omega (arith, mul-le-mul many_in three))
              | inr many_out ↦ few (omega (arith, many_in)) (omega (arith, many_out)) (omega (arith, mul-le-mul many_in many_out))
            ]
      ]
