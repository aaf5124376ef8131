-- The class of one target more takes the set, or has no need of it.
use Rattle.std.proofs.Common.{◌≡◌, ◌↔◌, ◌⊎◌, ◌<◌, ◌++◌, ◌∷◌, [], ℕ, List, length, take, get_or, sym, subst, arith, inl, inr}
use Rattle.std.proofs.lemmas.List.{take_more, take_all}
use Rattle.std.proofs.lemmas.List.Elements.{Contains-push_cases, Contains-append_left, Contains-push}
use Rattle.std.specs.List.{Contains}
use Rattle.component_pass.specs.Counting.{IsWide, cap}
use Rattle.component_pass.proofs.Led.{pushes-none, pushes-one, pushes-then, pushes-as}
use Rattle.component_pass.proofs.leading.lead_row.Goals as goal
use Rattle.component_pass.proofs.leading.lead_row.Goals.{then-takes+in_ok-ins, else-takes}

one_more : (xs : List ℕ) (y v : ℕ) → (Contains xs v ⊎ (y ≡ v)) ↔ Contains (xs ++ y ∷ []) v
one_more xs y v = (
  (λ t. elim t [ inl c ↦ Contains-append_left xs (y ∷ []) v c | inr e ↦ subst (λ (z : ℕ). Contains (xs ++ y ∷ []) z) e (Contains-push xs y) ]),
  (λ c. Contains-push_cases xs y v c),
)

pub loop-y-init : goal.loop-y-init
loop-y-init c = record {
  pushes = pushes-none c.args.labels.now c.args.indexes.now c.args.counts.now cap c.args.count c.args.own c.args.number
      (Contains []) c.args.ins.now c.args.lists.now c.requires.sets (λ v t h. omega (arith, t.1));
  marks = c.requires.marks;
  clear = c.requires.clear;
}

pub loop-y-preserved : goal.loop-y-preserved
loop-y-preserved c =
    let i = c.loop-y.invariant in
    let labels = c.args.labels.now in
    let indexes = c.args.indexes.now in
    let counts = c.args.counts.now in
    let count : ℕ = c.args.count in
    let own : ℕ = c.args.own in
    let number : ℕ = c.args.number in
    let row = c.args.row.now in
    let front = take c.loop-y.y-index row in
    let y : ℕ = get_or row c.loop-y.y-index 0 in
    let a = i.pushes.valid in
    rw (take_more row c.loop-y.y-index 0 c.loop-y-test.true) (elim c.if-takes.branch [
      | then-takes+in_ok-ins w ↦
          let at : get_or labels y 0 < length c.loop-y.ins = omega (arith, c.requires.labels y 0 (c.requires.row c.loop-y.y-index 0 c.loop-y-test.true), i.pushes.size) in
          let one = pushes-one labels indexes counts cap count own number y w.in_ok-ins.field-0 c.loop-y.ins
          c.loop-y.lists w.join.new.lists a at w.if-takes.ensures.0 w.in_ok-ins.ensures.found w.in_ok-ins.ensures.joins in
          rw (w.ins-is, w.lists-is, w.work-is) record {
            pushes = pushes-as labels indexes counts cap count own number (λ v. Contains front v ⊎ (y ≡ v)) (Contains (front ++ y ∷ [])) c.args.ins.now _ c.args.lists.now _ (one_more front y)
                (pushes-then labels indexes counts cap count own number (Contains front)
                (λ v. y ≡ v) c.args.ins.now c.loop-y.ins _ c.args.lists.now c.loop-y.lists w.join.new.lists c.requires.number i.pushes one);
            marks = w.in_ok-ins.ensures.marks;
            clear = w.in_ok-ins.ensures.clear;
          }
      | else-takes w ↦
          let one = pushes-none labels indexes counts cap count own number (λ v. y ≡ v) c.loop-y.ins c.loop-y.lists a (λ v e h.
          let g = subst (λ (z : ℕ). ((get_or labels z 0 ≡ own) → ⊥) × IsWide labels indexes counts z) (sym e) h in
          w.if-takes.ensures (g.0, g.1.0, g.1.1)) in
          rw (w.ins-is, w.lists-is, w.work-is) record {
            pushes = pushes-as labels indexes counts cap count own number (λ v. Contains front v ⊎ (y ≡ v))
                (Contains (front ++ y ∷ [])) c.args.ins.now c.loop-y.ins c.args.lists.now c.loop-y.lists (one_more front y)
                (pushes-then labels indexes counts cap count own number (Contains front)
                (λ v. y ≡ v) c.args.ins.now c.loop-y.ins c.loop-y.ins c.args.lists.now c.loop-y.lists c.loop-y.lists c.requires.number i.pushes one);
            marks = i.marks;
            clear = i.clear;
          }
    ])

pub returns-clause-pushes : goal.returns-clause-pushes
returns-clause-pushes c = rw (take_all c.loop-y.y-index c.args.row.now (omega arith)) at c.loop-y.invariant.pushes
