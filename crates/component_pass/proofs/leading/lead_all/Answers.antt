-- One class more hands on its set, or leads to too few for any class behind it.
use Rattle.std.proofs.Common.{◌≡◌, ◌<◌, ◌+◌, ◌-◌, ℕ, length, subst, arith}
use Rattle.component_pass.specs.Counting.{AreLed, cap}
use Rattle.component_pass.proofs.Led.{led-none, led-skip, led-push}
use Rattle.component_pass.proofs.leading.lead_all.Goals as goal

pub loop-c-init : goal.loop-c-init
loop-c-init c = rw (c.requires.lists, c.len-c.ensures) record {
  led = led-none c.args.graph.now.nodes c.args.graph.now.edges c.args.found.now.labels.items c.args.indexes.now c.args.counts.now c.args.found.now.rows cap c.args.count
      c.requires.part c.requires.classes c.requires.order c.requires.numbered c.requires.indexes (omega arith) c.requires.counts c.args.ins.now c.requires.ins c.requires.empty;
  within = omega arith;
  marks = c.requires.marks;
  clear = c.requires.clear;
}

pub loop-c-preserved-in_ok-lead_class : goal.loop-c-preserved-in_ok-lead_class
loop-c-preserved-in_ok-lead_class c =
    let i = c.loop-c.invariant in
    let nodes = c.args.graph.now.nodes in
    let edges = c.args.graph.now.edges in
    let labels = c.args.found.now.labels.items in
    let indexes = c.args.indexes.now in
    let counts = c.args.counts.now in
    let rows = c.args.found.now.rows in
    let count : ℕ = c.args.count in
    let own : ℕ = c.loop-c.c - 1 in
    let ol : own < length rows = omega (arith, i.within, c.loop-c-test.true) in
    let led = subst (λ (k : ℕ). AreLed edges (length nodes) labels indexes counts cap count k c.loop-c.ins c.loop-c.lists)
    (let e : c.loop-c.c ≡ own + 1 = omega (arith, c.loop-c-test.true) in e) i.led in
    let n = c.handed-number.ensures in
    record {
      led = led-push nodes edges labels indexes counts rows cap count c.requires.part c.requires.classes c.requires.order c.requires.numbered c.requires.indexes (omega arith) c.requires.counts
          own c.handed-number.result c.loop-c.ins c.lead_class.new.ins c.loop-c.lists c.lead_class.new.lists ol n.bare n.own c.in_ok-lead_class.ensures.pushes led;
      within = omega (arith, ol);
      marks = c.in_ok-lead_class.ensures.marks;
      clear = c.in_ok-lead_class.ensures.clear;
    }

pub loop-c-preserved : goal.loop-c-preserved
loop-c-preserved c =
    let i = c.loop-c.invariant in
    let nodes = c.args.graph.now.nodes in
    let edges = c.args.graph.now.edges in
    let labels = c.args.found.now.labels.items in
    let indexes = c.args.indexes.now in
    let counts = c.args.counts.now in
    let rows = c.args.found.now.rows in
    let count : ℕ = c.args.count in
    let own : ℕ = c.loop-c.c - 1 in
    let ol : own < length rows = omega (arith, i.within, c.loop-c-test.true) in
    let led = subst (λ (k : ℕ). AreLed edges (length nodes) labels indexes counts cap count k c.loop-c.ins c.loop-c.lists)
    (let e : c.loop-c.c ≡ own + 1 = omega (arith, c.loop-c-test.true) in e) i.led in
    record {
      led = led-skip nodes edges labels indexes counts rows cap count c.requires.part c.requires.classes c.requires.order c.requires.numbered c.requires.indexes (omega arith) c.requires.counts
          own c.loop-c.ins c.loop-c.lists (omega (arith, c.if-counts-own-ge-LEAST.false)) led;
      within = omega (arith, ol);
      marks = i.marks;
      clear = i.clear;
    }

pub returns : goal.returns
returns c =
    let nodes = c.args.graph.now.nodes in
    subst (λ (k : ℕ). AreLed c.args.graph.now.edges (length nodes) c.args.found.now.labels.items c.args.indexes.now c.args.counts.now cap c.args.count k c.loop-c.ins c.loop-c.lists)
    (let e : c.loop-c.c ≡ 0 = omega arith in e) c.loop-c.invariant.led
