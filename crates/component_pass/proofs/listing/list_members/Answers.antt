-- Each node stands for itself, so the union of the members' sets are the members.
use Rattle.std.proofs.Common.{◌≡◌, ◌↔◌, ◌<◌, ◌++◌, ◌∷◌, [], ℕ, List, Result, Ok, Err, OnOk, sym, subst, refl, arith}
use Rattle.std.proofs.lemmas.List.Elements.{All-contains}
use Rattle.std.proofs.lemmas.Result.{on_ok_weaker}
use Rattle.std.specs.List.{All, Contains}
use Rattle.joint_machine.specs.Components.{Rises}
use Rattle.component_pass.specs.Gathering.{set_at}
use Rattle.component_pass.specs.Grouping.{AddsOne}
use Rattle.component_pass.proofs.Rows.{same-some, same-apart, same-after}
use Rattle.component_pass.proofs.Sets.{set-one, one_is}
use Rattle.component_pass.proofs.listing.list_members.Goals as goal

selves : (count : ℕ) (lists : List (List ℕ)) (members union : List ℕ) → All (λ x. x < count) members
    → ((j : ℕ) → Contains union j ↔ ((s : ℕ) × Contains members s × Contains (set_at count lists s) j)) → (j : ℕ) → Contains union j ↔ Contains members j
selves count lists members union below u j = (
  (λ c.
      let t = (u j).0 c in
      let lt = All-contains (λ x. x < count) members t.0 below t.1 in
      let is = (one_is t.0 j).0 (subst (λ (xs : List ℕ). Contains xs j) (set-one count lists t.0 lt) t.2) in
      subst (λ (s : ℕ). Contains members s) is t.1),
  (λ c.
      let lt = All-contains (λ x. x < count) members j below c in
      (u j).1 (j, c, subst (λ (xs : List ℕ). Contains xs j) (sym (set-one count lists j lt)) ((one_is j j).1 refl))),
)

added : {E : Type 0} (r : Result ℕ E) (before after : List (List ℕ)) (objs members : List ℕ) → OnOk r (after ≡ before ++ objs ∷ []) → Rises objs
    → ((j : ℕ) → Contains objs j ↔ Contains members j) → OnOk r (AddsOne before after members)
added (Ok i) before after objs members e rises same = record { objs = objs; added = e; rises = rises; same = same }
added (Err e) before after objs members h rises same = tt

pub component-requires-2-clause-some : goal.component-requires-2-clause-some
component-requires-2-clause-some c =
    let s = selves c.args.count c.args.rows.now c.args.members.now c.unite.new.union.items c.requires.below c.in_ok-unite.ensures.exact in
    rw c.deref.ensures.value (same-some c.args.members.now c.unite.new.union.items s c.requires.some)

pub component-requires-2-clause-apart : goal.component-requires-2-clause-apart
component-requires-2-clause-apart c =
    let s = selves c.args.count c.args.rows.now c.args.members.now c.unite.new.union.items c.requires.below c.in_ok-unite.ensures.exact in
    rw c.deref.ensures.value (same-apart c.args.builder.now.comps c.args.members.now c.unite.new.union.items s c.requires.apart)

pub component-requires-2-clause-after : goal.component-requires-2-clause-after
component-requires-2-clause-after c =
    let s = selves c.args.count c.args.rows.now c.args.members.now c.unite.new.union.items c.requires.below c.in_ok-unite.ensures.exact in
    rw c.deref.ensures.value (same-after c.args.builder.now.comps c.args.members.now c.unite.new.union.items s c.requires.some c.requires.after)

pub returns-clause-comps : goal.returns-clause-comps
returns-clause-comps c =
    let s = selves c.args.count c.args.rows.now c.args.members.now c.unite.new.union.items c.requires.below c.in_ok-unite.ensures.exact in
    let comps = rw c.deref.ensures.value at c.component-2.ensures.comps in
    added c.component-2.result c.args.builder.now.comps c.component-2.new.self.comps c.unite.new.union.items c.args.members.now comps c.in_ok-unite.ensures.rises s

pub component-requires-2-clause-rises : goal.component-requires-2-clause-rises
component-requires-2-clause-rises c = rw c.deref.ensures.value c.in_ok-unite.ensures.rises

pub component-requires-2-clause-below : goal.component-requires-2-clause-below
component-requires-2-clause-below c = rw c.deref.ensures.value (λ k d lt. omega (arith, c.in_ok-unite.ensures.below k d lt, c.requires.few))

pub unite-requires-clause-numbers : goal.unite-requires-clause-numbers
unite-requires-clause-numbers c = λ k d lt. omega (arith, c.requires.below k d lt)

pub unite-requires-clause-below : goal.unite-requires-clause-below
unite-requires-clause-below c = c.requires.rows

pub returns-then-are_components_in_order-clause-comps : goal.returns-then-are_components_in_order-clause-comps
returns-then-are_components_in_order-clause-comps c =
    added c.component.result c.args.builder.now.comps c.component.new.self.comps c.args.members.now c.args.members.now c.component.ensures.comps
    (c.if-are_components_in_order.ensures refl).0 (λ j. (λ t. t, λ t. t))

pub returns-clause-index : goal.returns-clause-index
returns-clause-index c = c.component-2.ensures.index

pub returns-clause-pairs : goal.returns-clause-pairs
returns-clause-pairs c = c.component-2.ensures.pairs

pub returns-then-are_components_in_order-clause-pairs : goal.returns-then-are_components_in_order-clause-pairs
returns-then-are_components_in_order-clause-pairs c = c.component.ensures.pairs

pub returns-then-are_components_in_order-clause-clear : goal.returns-then-are_components_in_order-clause-clear
returns-then-are_components_in_order-clause-clear c = on_ok_weaker c.component.result (λ _. c.requires.clear) c.component.ensures.comps

pub returns-clause-clear : goal.returns-clause-clear
returns-clause-clear c = on_ok_weaker c.component-2.result (λ _. c.in_ok-unite.ensures.clear) c.component-2.ensures.comps
