use Rattle.std.proofs.Common.{◌<◌, take, get_or, subst, sym, arith}
use Rattle.std.specs.List.{All}
use Rattle.std.proofs.lemmas.List.{take_all, take_more}
use Rattle.std.proofs.lemmas.List.Elements.{All-push}
use Rattle.array_graphs.proofs.graphs.are_nodes.Goals as goal

pub loop-y-preserved : goal.loop-y-preserved
loop-y-preserved c =
    let targets = c.args.targets.now in
    let i = c.loop-y.y-index in
    subst (All (λ y. y < c.args.nodes)) (sym (take_more targets i 0 c.loop-y-test.true))
    (All-push (λ y. y < c.args.nodes) (take i targets) (get_or targets i 0) c.loop-y.invariant (omega (arith, c.if-y-nodes.false)))

pub returns : goal.returns
returns c = subst (All (λ y. y < c.args.nodes)) (take_all c.loop-y.y-index c.args.targets.now c.loop-y-test.false) c.loop-y.invariant
