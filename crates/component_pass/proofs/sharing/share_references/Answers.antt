-- The sets that were found are those of the references.
use Rattle.std.proofs.Common.{arith}
use Rattle.std.proofs.lemmas.List.{take_at}
use Rattle.std.proofs.lemmas.Result.{on_ok_weaker}
use Rattle.component_pass.proofs.References.{set-known, set-below, set-apart, set-rising, references-of}
use Rattle.component_pass.proofs.sharing.share_references.Goals as goal

pub list_sets-requires-clause-known : goal.list_sets-requires-clause-known
list_sets-requires-clause-known c =
    let num = rw (← c.len-count.ensures.count) at c.requires.numbered in
    rw (c.deref.ensures.value, take_at c.find_sets.new.refs _ c.in_ok-refs.refs.len (omega arith))
    (set-known c.args.graph.now.nodes c.args.graph.now.edges c.args.labels.now c.args.indexes.now c.args.rows.now c.len-count.result c.find_sets.new.refs
    c.find_sets.new.lists c.requires.part c.requires.classes c.requires.order (omega arith) num c.in_ok-find_sets.ensures.referred)

pub list_sets-requires-clause-rises : goal.list_sets-requires-clause-rises
list_sets-requires-clause-rises c =
    let num = rw (← c.len-count.ensures.count) at c.requires.numbered in
    rw (c.deref.ensures.value, take_at c.find_sets.new.refs _ c.in_ok-refs.refs.len (omega arith))
    (λ i lt. set-rising c.args.graph.now.nodes c.args.graph.now.edges c.args.labels.now c.args.indexes.now c.args.rows.now c.len-count.result c.find_sets.new.refs
    c.find_sets.new.lists c.requires.part c.requires.classes c.requires.order (omega arith) num c.in_ok-find_sets.ensures.referred i lt c.in_ok-find_sets.ensures.rising)

pub list_sets-requires-clause-below : goal.list_sets-requires-clause-below
list_sets-requires-clause-below c =
    let num = rw (← c.len-count.ensures.count) at c.requires.numbered in
    rw (c.deref.ensures.value, take_at c.find_sets.new.refs _ c.in_ok-refs.refs.len (omega arith))
    (set-below c.args.graph.now.nodes c.args.graph.now.edges c.args.labels.now c.args.indexes.now c.args.rows.now c.len-count.result c.find_sets.new.refs
    c.find_sets.new.lists c.requires.part c.requires.classes c.requires.order (omega arith) num c.in_ok-find_sets.ensures.referred)

pub list_sets-requires-clause-apart : goal.list_sets-requires-clause-apart
list_sets-requires-clause-apart c =
    let num = rw (← c.len-count.ensures.count) at c.requires.numbered in
    rw (c.deref.ensures.value, take_at c.find_sets.new.refs _ c.in_ok-refs.refs.len (omega arith))
    (set-apart c.args.graph.now.nodes c.args.graph.now.edges c.args.labels.now c.args.indexes.now c.args.rows.now c.len-count.result c.find_sets.new.refs
    c.find_sets.new.lists c.requires.part c.requires.classes c.requires.order (omega arith) num c.in_ok-find_sets.ensures.referred)

pub returns-clause-pairs : goal.returns-clause-pairs
returns-clause-pairs c =
    let num = rw (← c.len-count.ensures.count) at c.requires.numbered in
    let count = c.len-count.result in
    let p = rw (c.deref.ensures.value, take_at c.find_sets.new.refs _ c.in_ok-refs.refs.len (omega arith)) at c.list_sets.ensures.pairs in
    rw (← c.len-count.ensures.count) (on_ok_weaker c.list_sets.result
    (λ h. references-of c.args.graph.now.nodes c.args.graph.now.edges c.args.labels.now c.args.indexes.now c.args.rows.now count c.find_sets.new.refs
    c.find_sets.new.lists c.requires.part c.requires.classes c.requires.order (omega arith) num c.in_ok-find_sets.ensures.referred
    c.list_sets.new.builder.pairs count (omega arith) (omega arith) h) p)
