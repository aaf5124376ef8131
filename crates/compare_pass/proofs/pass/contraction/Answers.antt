-- Ordering the pairs changes neither which there are nor the components.
use Rattle.std.proofs.Common.{◌≡◌, refl, arith}
use Rattle.std.proofs.lemmas.List.Elements.{All-replicate}
use Rattle.compare_pass.proofs.Contracted.{contracted}
use Rattle.compare_pass.proofs.Ordered.{finished}
use Rattle.compare_pass.proofs.pass.contraction.Goals as goal

pub list_all-requires-clause-part : goal.list_all-requires-clause-part
list_all-requires-clause-part c = c.nodes.ensures.part

pub list_all-requires-clause-indexes : goal.list_all-requires-clause-indexes
list_all-requires-clause-indexes c = omega (arith, c.deref_mut.ensures.len, c.in_ok-indexes.ensures.len, c.nodes.ensures.count)

pub list_all-requires-clause-unset : goal.list_all-requires-clause-unset
list_all-requires-clause-unset c = rw (c.deref_mut.ensures.value, c.in_ok-indexes.ensures.items_if_clones_equal (λ y e. e)) (All-replicate (λ i. i ≡ 4294967295) c.nodes.result 4294967295 refl)

pub returns : goal.returns
returns c =
    let nodes = c.args.graph.now.nodes in
    let edges = c.args.graph.now.edges in
    let labels = c.args.labels.now in
    let comps = c.list_all.new.builder.comps in
    let pairs = c.list_all.new.builder.pairs in
    let a = c.in_ok-list_all.ensures in
    finished _ _ c.finish.result comps pairs a.heavy c.finish.ensures.comps (rw (← a.count) at c.finish.ensures.heavy) c.finish.ensures.pairs c.finish.ensures.listing
    (λ few ordered m k. contracted nodes edges labels comps a.before a.firsts a.after a.heavy pairs ordered few c.nodes.ensures.part c.requires.classes a.listed a.below a.references m k)
