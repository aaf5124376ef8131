use Rattle.std.proofs.Common.{◌≡◌, take}
use Rattle.std.specs.List.{filter}
use Rattle.heap_pictures.specs.declared.pictures.PeerNode.{PeerNode}
use Rattle.heap_pictures.specs.declared.pictures.Spot.TheVariants.{Peer}
use Rattle.picture_sheets.specs.Keys.{has_spot, is_wanted}
use Rattle.picture_sheets.proofs.parts.peers_of.Given as goal

abbrev pub invariant-loop-node : goal.invariant-loop-node
invariant-loop-node l = l.found.items ≡ filter (λ (n : PeerNode). is_wanted l.wanted (has_spot l.spots (Peer n.p))) (take l.node-index l.nodes)
