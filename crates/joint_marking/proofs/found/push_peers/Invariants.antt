-- The nodes of the peers so far stand at the end.
use Rattle.std.proofs.Common.{◌≡◌, ◌+◌, ◌++◌, map, take}
use Rattle.joint_marking.specs.Nodes.{objects_in}
use Rattle.joint_marking.proofs.found.push_peers.Given as goal

abbrev pub invariant-loop-p : goal.invariant-loop-p
invariant-loop-p g l = l.nodes.items ≡ l.fn.nodes.items ++ map (λ p. objects_in (g.G.JointWalked.graph l.g) + p.0) (take l.p-index l.peers)
