use Rattle.joint_machine.specs.Histories.{peer_numbers}
use Rattle.run_check.proofs.Stretches.{AreAlikeFrom}
use Rattle.run_check.proofs.replies.peers_as_named.Given as goal

abbrev pub invariant-loop-i : goal.invariant-loop-i
invariant-loop-i l = AreAlikeFrom (peer_numbers l.h.freed_peers) (peer_numbers l.freed) l.fn.span.first l.i
