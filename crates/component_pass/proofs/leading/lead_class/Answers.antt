-- The targets of one member more.
use Rattle.component_pass.specs.Counting.{cap}
use Rattle.std.proofs.Common.{◌↔◌, ◌⊎◌, ◌++◌, ◌∷◌, [], ℕ, List, length, take, get_or, sym, ap, subst, arith, inl, inr}
use Rattle.std.proofs.lemmas.List.{take_more, take_all, get_or_default}
use Rattle.std.proofs.lemmas.List.Elements.{Contains-push_cases, Contains-append_left, Contains-push, Contains-get_or}
use Rattle.std.specs.List.{Contains}
use Rattle.bridge_graph.specs.Parts.{row_at}
use Rattle.component_pass.proofs.Led.{pushes-none, pushes-then, pushes-as}
use Rattle.component_pass.proofs.leading.lead_class.Goals as goal

one_more : (edges : List (List ℕ)) (xs : List ℕ) (x v : ℕ) → (((u : ℕ) × Contains xs u × Contains (row_at edges u) v) ⊎ Contains (row_at edges x) v)
    ↔ ((u : ℕ) × Contains (xs ++ x ∷ []) u × Contains (row_at edges u) v)
one_more edges xs x v = (
  (λ t. elim t [ inl c ↦ (c.0, Contains-append_left xs (x ∷ []) c.0 c.1, c.2) | inr d ↦ (x, Contains-push xs x, d) ]),
  (λ c. elim (Contains-push_cases xs x c.0 c.1) [ inl d ↦ inl (c.0, d, c.2) | inr e ↦ inr (subst (λ (u : ℕ). Contains (row_at edges u) v) (sym e) c.2) ]),
)

pub loop-x-init : goal.loop-x-init
loop-x-init c = record {
  pushes = pushes-none c.args.found.now.labels.items c.args.indexes.now c.args.counts.now cap c.args.count c.args.own c.args.number
      (λ v. (u : ℕ) × Contains [] u × Contains (row_at c.args.graph.now.edges u) v) c.args.ins.now c.args.lists.now c.requires.sets (λ v t h. omega (arith, t.1.1));
  marks = c.requires.marks;
  clear = c.requires.clear;
}

pub loop-x-preserved : goal.loop-x-preserved
loop-x-preserved c =
    let i = c.loop-x.invariant in
    let labels = c.args.found.now.labels.items in
    let indexes = c.args.indexes.now in
    let counts = c.args.counts.now in
    let count : ℕ = c.args.count in
    let own : ℕ = c.args.own in
    let number : ℕ = c.args.number in
    let edges = c.args.graph.now.edges in
    let members = row_at c.args.found.now.rows own in
    let at : ℕ = c.loop-x.x-index in
    let front = take at members in
    let x : ℕ = get_or members at 0 in
    let p = rw (c.deref.ensures.value, c.row.ensures.row, c.row-members.ensures) at c.in_ok-lead_row.ensures.pushes in
    let T : List ℕ → ℕ → Type 0 = λ xs v. (u : ℕ) × Contains xs u × Contains (row_at edges u) v in
    rw (take_more members at 0 (omega (arith, c.loop-x-test.true, ap length c.row-members.ensures))) record {
      pushes = pushes-as labels indexes counts cap count own number (λ v. T front v ⊎ Contains (row_at edges x) v)
          (T (front ++ x ∷ [])) c.args.ins.now c.lead_row.new.ins c.args.lists.now c.lead_row.new.lists (one_more edges front x)
          (pushes-then labels indexes counts cap count own number (T front)
          (Contains (row_at edges x)) c.args.ins.now c.loop-x.ins c.lead_row.new.ins c.args.lists.now c.loop-x.lists c.lead_row.new.lists c.requires.number i.pushes p);
      marks = c.in_ok-lead_row.ensures.marks;
      clear = c.in_ok-lead_row.ensures.clear;
    }

pub row-requires : goal.row-requires
row-requires c =
    let members = row_at c.args.found.now.rows c.args.own in
    rw c.row-members.ensures ((c.requires.order.members c.args.own (get_or members c.loop-x.x-index 0)).0
    (Contains-get_or members c.loop-x.x-index 0 (omega (arith, c.loop-x-test.true, ap length c.row-members.ensures)))).0

pub lead_row-requires-clause-labels : goal.lead_row-requires-clause-labels
lead_row-requires-clause-labels c =
    let labels = c.args.found.now.labels.items in
    rw c.deref.ensures.value (λ k d lt. omega (
      arith,
      get_or_default labels k d 0 lt,
      c.requires.order.labelled k (omega (arith, lt, c.requires.labels)),
      c.requires.ins,
      c.loop-x.invariant.pushes.size,
    ))

pub returns-clause-pushes : goal.returns-clause-pushes
returns-clause-pushes c =
    rw (take_all c.loop-x.x-index (row_at c.args.found.now.rows c.args.own) (omega (arith, ap length c.row-members.ensures))) at c.loop-x.invariant.pushes
