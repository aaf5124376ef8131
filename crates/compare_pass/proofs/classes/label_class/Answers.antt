-- The search labels just the class of its root.
use Rattle.std.proofs.Common.{◌≡◌, ◌↔◌, ◌<◌, [], ℕ, length, sym, ap, subst, arith}
use Rattle.std.proofs.lemmas.List.{length_push, nil_from_length}
use Rattle.std.proofs.lemmas.List.Elements.{Contains-push}
use Rattle.std.specs.Prelude.{Contains}
use Rattle.bridge_graph.specs.Parts.{NodeLeads}
use Rattle.compare_pass.proofs.Spreading.{bare-below, spread-first, spread-row, spread-done}
use Rattle.compare_pass.proofs.classes.label_class.Goals as goal

pub put_label-requires-clause-node : goal.put_label-requires-clause-node
put_label-requires-clause-node c = omega (arith, c.requires.order.within c.args.at 0 c.requires.at, c.requires.root)

pub loop-x-init : goal.loop-x-init
loop-x-init c =
    let root : ℕ = c.args.root in
    let below : root < length c.args.graph.now.nodes = omega (arith, c.requires.order.within c.args.at 0 c.requires.at, c.requires.root) in
    rw (c.in_ok-push.ensures.items, c.requires.waiting) record {
      numbers = c.in_ok-put_label.ensures.numbers;
      spreading = rw c.in_ok-put_label.ensures.labels (spread-first c.args.graph.now.edges root c.args.table.now.labels (λ e. omega (arith, e, below, c.requires.few)) c.requires.bare);
    }

pub row-requires : goal.row-requires
row-requires c =
    let s = rw c.in-Some.ensures.items at c.loop-x.invariant.spreading in
    let f = s.found c.in-Some.x (Contains-push c.pop.new.self.items c.in-Some.x) in
    omega (arith, bare-below c.args.table.now.labels c.in-Some.x f.0, c.requires.labels.size, c.requires.back.count)

pub loop-x-preserved : goal.loop-x-preserved
loop-x-preserved c =
    let i = c.loop-x.invariant in
    let s = rw c.in-Some.ensures.items at i.spreading in
    let root : ℕ = c.args.root in
    let x : ℕ = c.in-Some.x in
    let below : root < length c.args.graph.now.nodes = omega (arith, c.requires.order.within c.args.at 0 c.requires.at, c.requires.root) in
    let l = c.in_ok-label_row.ensures in
    let row : (u : ℕ) → Contains c.row.result.now u ↔ NodeLeads c.args.graph.now.edges u x = (λ u. (
      (λ h. (c.requires.back.leads x u).0 (subst (λ r. Contains r u) c.row.ensures.row h)),
      (λ h. subst (λ r. Contains r u) (sym c.row.ensures.row) ((c.requires.back.leads x u).1 h)),
    )) in
    record {
      numbers = l.numbers;
      spreading = spread-row c.args.graph.now.edges root x c.row.result.now c.args.table.now.labels c.loop-x.table.labels c.pop.new.self.items _ _
          (λ e. omega (arith, e, below, c.requires.few)) row l.labels s;
    }

pub loop-x-smaller : goal.loop-x-smaller
loop-x-smaller c = omega (arith, c.in_ok-label_row.ensures.labels.count, ap length c.in-Some.ensures.items, length_push c.pop.new.self.items c.in-Some.x)

pub returns-clause-waiting : goal.returns-clause-waiting
returns-clause-waiting c = nil_from_length c.pop.new.self.items (omega (arith, c.in_default.ensures.cases, c.pop.new.self.ok))

pub returns-clause-labels : goal.returns-clause-labels
returns-clause-labels c =
    let none : c.loop-x.waiting.items ≡ [] = nil_from_length c.loop-x.waiting.items (omega (arith, c.in_default.ensures.cases, c.loop-x.waiting.ok)) in
    spread-done c.args.graph.now.edges (length c.args.graph.now.nodes) c.args.order.now c.args.at c.args.root c.args.table.now.labels
    c.loop-x.table.labels c.requires.few c.requires.order c.requires.at c.requires.root c.requires.bare c.requires.labels
    (rw none at c.loop-x.invariant.spreading)
