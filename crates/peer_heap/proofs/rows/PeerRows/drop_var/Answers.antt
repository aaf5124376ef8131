-- The heap did the definition's own.
use Rattle.joint_machine.specs.Heaps.{dropped}
use Rattle.joint_machine.specs.Peers.{on_peer_heap}
use Rattle.peer_heap.specs.Rows.{Rows, PeersAnswer, peers_in, rows_with}
use Rattle.std.proofs.Common.{subst}
use Rattle.peer_heap.proofs.Events.{answers-heap}
use Rattle.peer_heap.proofs.Lengths.{drop-keeps}
use Rattle.peer_heap.proofs.rows.PeerRows.drop_var.Goals as goal

pub returns-clause-answers : goal.returns-clause-answers
returns-clause-answers c =
    let i = c.self.inside in
    let old : Rows = rows_with i.heap i.sorts.items i.names i.issued i.table in
    subst (λ (z : Rows). PeersAnswer z (on_peer_heap (peers_in z) (dropped z.rows.heap c.args.v)) c.reply_of.result (rows_with c.drop-done.new.self i.sorts.items i.names i.issued i.table))
    c.self.view_is
    (answers-heap old c.drop-done.new.self (λ name. dropped i.heap.heap c.args.v) c.drop-done.result c.reply_of.result c.drop-done.ensures.done c.reply_of.ensures)

pub invariant_of-self : goal.invariant_of-self
invariant_of-self c =
    let i = c.self.inside in
    drop-keeps i.heap c.drop-done.new.self i.sorts.items i.issued i.table c.drop-done.result c.args.v c.drop-done.ensures.done c.self.invariant
