-- The counts are the sizes of the sets.
use Rattle.component_pass.specs.Counting.{cap}
use Rattle.std.proofs.Common.{ℕ, get_or, arith}
use Rattle.component_pass.proofs.Led.{led-count}
use Rattle.component_pass.proofs.leading.lead.Goals as goal

pub returns-clause-counts : goal.returns-clause-counts
returns-clause-counts c = λ x lt w.
    let nodes = c.args.graph.now.nodes in
    let labels = c.args.found.now.labels.items in
    let ins = c.lead_all.new.ins in
    let at : ℕ = get_or labels x 0 in
    let led = c.in_ok-lead_all.ensures in
    let size = c.put_sizes.ensures.sizes at (omega (arith, c.requires.order.labelled x lt, led.size, c.requires.indexes)) w.1 in
    let n = led-count nodes c.args.graph.now.edges labels c.args.indexes.now c.args.counts.now c.args.found.now.rows cap c.args.count
    c.requires.part c.requires.classes c.requires.order c.requires.numbered c.requires.indexes (omega arith) c.requires.counts
    ins c.lead_all.new.lists x led lt w in
    rw size n
