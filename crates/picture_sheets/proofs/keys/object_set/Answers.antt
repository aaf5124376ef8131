use Rattle.heap_pictures.specs.declared.pictures.Spot.TheVariants.{Object}
use Rattle.picture_sheets.proofs.Keyed.{in-more}
use Rattle.picture_sheets.proofs.keys.object_set.Goals as goal

pub loop-node-preserved : goal.loop-node-preserved
loop-node-preserved c m = in-more (λ x. x.m) m c.args.nodes.now c.loop-node.node-index _ _ _ c.loop-node-test.true
    (c.loop-node.invariant m) (c.in_ok-put_spot.ensures.puts (Object m))
