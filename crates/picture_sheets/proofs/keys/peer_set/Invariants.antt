use Rattle.std.proofs.Common.{◌≡◌, ℕ, map, take}
use Rattle.heap_pictures.specs.Flags.{is_in}
use Rattle.heap_pictures.specs.declared.pictures.PeerNode.{PeerNode}
use Rattle.heap_pictures.specs.declared.pictures.Spot.TheVariants.{Peer}
use Rattle.picture_sheets.specs.Keys.{has_spot}
use Rattle.picture_sheets.proofs.keys.peer_set.Given as goal

abbrev pub invariant-loop-node : goal.invariant-loop-node
invariant-loop-node l = (p : ℕ) → has_spot l.set (Peer p) ≡ is_in (map (λ (n : PeerNode). n.p) (take l.node-index l.nodes)) p
