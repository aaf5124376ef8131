use Rattle.std.proofs.Common.{ap, ◌∙◌}
use Rattle.heap_pictures.specs.declared.pictures.PeerNode.{PeerNode}
use Rattle.heap_pictures.specs.declared.pictures.Spot.TheVariants.{Peer}
use Rattle.picture_sheets.specs.Keys.{has_spot, is_wanted}
use Rattle.picture_sheets.proofs.Keeping.{kept-more}
use Rattle.picture_sheets.proofs.parts.peers_of.Goals as goal

pub loop-node-preserved : goal.loop-node-preserved
loop-node-preserved c = kept-more (λ (n : PeerNode). is_wanted c.args.wanted (has_spot c.args.spots.now (Peer n.p))) c.args.nodes.now c.loop-node.node-index _
    c.loop-node.found.items c.keep.new.list.items c.is_wanted.result c.loop-node-test.true c.loop-node.invariant
    (c.is_wanted.ensures ∙ ap (is_wanted c.args.wanted) c.has_spot.ensures) c.in_ok-keep.ensures
