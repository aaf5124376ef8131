-- The components of two sets.
use Rattle.std.proofs.Common.{◌≡◌, ◌+◌, ◌++◌, ◌↔◌, ◌⊎◌, ◌∷◌, [], ℕ, List, length, sym, subst, inl, inr, arith}
use Rattle.std.proofs.lemmas.List.{length_push}
use Rattle.std.specs.List.{Contains}
use Rattle.joint_machine.proofs.Members.{Contains-cons_cases, Contains-here, Contains-there, Contains-nil}
use Rattle.component_pass.specs.Gathering.{set_at}
use Rattle.component_pass.proofs.Sets.{set-last}
use Rattle.component_pass.proofs.Shared.{found-new, found-old}
use Rattle.component_pass.proofs.leading.join_both.Goals as goal

of_both : (count one other : ℕ) (lists : List (List ℕ)) (union : List ℕ) → ((j : ℕ) → Contains union j ↔ ((s : ℕ) × Contains (one ∷ other ∷ []) s × Contains (set_at count lists s) j))
    → (j : ℕ) → Contains union j ↔ (Contains (set_at count lists one) j ⊎ Contains (set_at count lists other) j)
of_both count one other lists union h j = (
  (λ c.
      let t = (h j).0 c in
      elim (Contains-cons_cases one (other ∷ []) t.0 t.1) [
        | inl e ↦ inl (subst (λ (s : ℕ). Contains (set_at count lists s) j) (sym e) t.2)
        | inr d ↦ elim (Contains-cons_cases other [] t.0 d) [
          | inl e ↦ inr (subst (λ (s : ℕ). Contains (set_at count lists s) j) (sym e) t.2)
          | inr n ↦ absurd (Contains-nil t.0 n)
        ]
      ]),
  (λ o. (h j).1 (elim o [ inl c ↦ (one, Contains-here one (other ∷ []), c) | inr c ↦ (other, Contains-there other one (other ∷ []) (Contains-here other []), c) ])),
)

pub returns-in-Some-clause-exact : goal.returns-in-Some-clause-exact
returns-in-Some-clause-exact c =
    rw (c.in-Some.ensures.1, c.deref.ensures.value) (of_both c.args.count c.args.one c.args.other c.args.lists.now c.unite.new.union.items c.in_ok-unite.ensures.exact)

pub returns-clause-exact : goal.returns-clause-exact
returns-clause-exact c =
    rw (c.in_ok-push.ensures.lists, c.deref-2.ensures.value, c.len-2.ensures, set-last c.args.count c.args.lists.now c.unite.new.union.items)
    (of_both c.args.count c.args.one c.args.other c.args.lists.now c.unite.new.union.items c.in_ok-unite.ensures.exact)

pub returns-clause-found : goal.returns-clause-found
returns-clause-found c =
    let lists = c.args.lists.now in
    let union = c.unite.new.union.items in
    let known : c.args.count + length (lists ++ union ∷ []) ≡ (c.args.count + length lists) + 1 = omega (arith, length_push lists union) in
    rw (c.in_ok-push.ensures.lists, c.deref-2.ensures.value, known, c.len-2.ensures)
    (found-new c.args.ins.now lists c.args.count (c.args.count + length lists) union c.requires.sets c.in_ok-unite.ensures.rises c.in_ok-unite.ensures.below)

pub returns-in-Some-clause-found : goal.returns-in-Some-clause-found
returns-in-Some-clause-found c =
    found-old c.args.ins.now c.args.lists.now c.args.count (c.args.count + length c.args.lists.now) c.in-Some.number c.requires.sets c.in-Some.ensures.0
