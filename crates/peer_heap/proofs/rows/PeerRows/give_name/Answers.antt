-- Where the variable is empty nothing is named; else its peer is.
use Rattle.std.proofs.Common.{◌≡◌, Some, sym, subst}
use Rattle.std.specs.Prelude.{IfOk}
use Rattle.joint_machine.specs.Heaps.{Answered, slot}
use Rattle.joint_machine.specs.Peers.{Peers}
use Rattle.peer_heap.specs.Rows.{Rows, PeersAnswer}
use Rattle.peer_heap.proofs.Events.{globalised-some}
use Rattle.peer_heap.proofs.rows.PeerRows.give_name.Goals as goal

pub returns-in-Some-clause-answers : goal.returns-in-Some-clause-answers
returns-in-Some-clause-answers c =
    let var = subst (λ (z : Rows). slot z.rows.heap.vars c.args.v ≡ Some c.in-Some.p) c.self.view_is c.in-Some.ensures.value in
    subst (λ (a : Answered Peers). IfOk c.name_peer.result (λ r. PeersAnswer c.args.self.now a r c.name_peer.new.self))
    (sym (globalised-some c.args.self.now c.args.g c.args.v c.in-Some.p c.args.strength var)) c.name_peer.ensures.answers
