-- The unmarked peers so far are gathered.
use Rattle.joint_machine.specs.Histories.{peer_numbers}
use Rattle.joint_machine.specs.Gathered.{Gathered}
use Rattle.joint_marking.specs.Nodes.{IsUnmarkedPeer}
use Rattle.joint_marking.proofs.found.unmarked_peers.Given as goal

abbrev pub invariant-loop-p : goal.invariant-loop-p
invariant-loop-p g l = Gathered (IsUnmarkedPeer (g.G.JointWalked.graph l.g) l.marks) l.p (peer_numbers l.found.items)
