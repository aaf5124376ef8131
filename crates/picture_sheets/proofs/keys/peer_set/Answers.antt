use Rattle.heap_pictures.specs.declared.pictures.Spot.TheVariants.{Peer}
use Rattle.picture_sheets.proofs.Keyed.{in-more}
use Rattle.picture_sheets.proofs.keys.peer_set.Goals as goal

pub loop-node-preserved : goal.loop-node-preserved
loop-node-preserved c p = in-more (λ x. x.p) p c.args.nodes.now c.loop-node.node-index _ _ _ c.loop-node-test.true
    (c.loop-node.invariant p) (c.in_ok-put_spot.ensures.puts (Peer p))
