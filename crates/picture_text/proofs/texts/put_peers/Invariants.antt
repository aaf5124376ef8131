use Rattle.std.proofs.Common.{◌≡◌, ◌++◌, take}
use Rattle.std.specs.List.{flat_map}
use Rattle.picture_text.specs.Texts.{peer_text}
use Rattle.picture_text.proofs.texts.put_peers.Given as goal

abbrev pub invariant-loop-node : goal.invariant-loop-node
invariant-loop-node l = l.text.items ≡ l.fn.text.items ++ flat_map (peer_text l.change) (take l.node-index l.nodes)
