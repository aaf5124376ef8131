use Rattle.std.proofs.Common.{ℕ, get_or, take, arith}
use Rattle.std.proofs.lemmas.List.{take_more, take_all}
use Rattle.component_pass.proofs.Rows.{collected-more, collected-other}
use Rattle.component_pass.proofs.listing.collect_bridges.Goals as goal
use Rattle.component_pass.proofs.listing.collect_bridges.Goals.{then-is_bridge+in_ok-push, else-is_bridge}

pub loop-y-preserved : goal.loop-y-preserved
loop-y-preserved c =
    let class = c.args.class.now in
    let at = c.loop-y.y-index in
    let y : ℕ = get_or class at 0 in
    rw (take_more class at 0 c.loop-y-test.true) (elim c.if-is_bridge.branch [
      | then-is_bridge+in_ok-push w ↦ rw (w.members-is, w.in_ok-push.ensures.items)
          (collected-more c.args.graph.now.nodes (take at class) c.loop-y.members.items y w.if-is_bridge.ensures c.loop-y.invariant)
      | else-is_bridge w ↦ rw w.members-is (collected-other c.args.graph.now.nodes (take at class) c.loop-y.members.items y w.if-is_bridge.ensures c.loop-y.invariant)
    ])

pub returns : goal.returns
returns c = rw (take_all c.loop-y.y-index c.args.class.now (omega arith)) at c.loop-y.invariant
