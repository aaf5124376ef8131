-- The numbers so far were put.
use Rattle.std.proofs.Common.{◌≡◌, take}
use Rattle.joint_machine.specs.Histories.{peer_numbers}
use Rattle.joint_replay.proofs.dead.as_peers.Given as goal

abbrev pub invariant-loop-p : goal.invariant-loop-p
invariant-loop-p l = peer_numbers l.peers.items ≡ take l.p-index l.numbers
