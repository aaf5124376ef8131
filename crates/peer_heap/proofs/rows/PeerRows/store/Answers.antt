-- The heap did the definition's own.
use Rattle.joint_machine.specs.Heaps.{stored}
use Rattle.joint_machine.specs.Peers.{on_peer_heap}
use Rattle.peer_heap.specs.Rows.{Rows, PeersAnswer, peers_in, rows_with}
use Rattle.std.proofs.Common.{subst}
use Rattle.peer_heap.proofs.Events.{answers-heap}
use Rattle.peer_heap.proofs.Lengths.{store-keeps}
use Rattle.peer_heap.proofs.rows.PeerRows.store.Goals as goal

pub returns-clause-answers : goal.returns-clause-answers
returns-clause-answers c =
    let i = c.self.inside in
    let old : Rows = rows_with i.heap i.sorts.items i.names i.issued i.table in
    subst (λ (z : Rows). PeersAnswer z (on_peer_heap (peers_in z) (stored z.rows.heap c.args.x c.args.v)) c.reply_of.result (rows_with c.store-done.new.self i.sorts.items i.names i.issued i.table))
    c.self.view_is
    (answers-heap old c.store-done.new.self (λ name. stored i.heap.heap c.args.x c.args.v) c.store-done.result c.reply_of.result c.store-done.ensures.done c.reply_of.ensures)

pub invariant_of-self : goal.invariant_of-self
invariant_of-self c =
    let i = c.self.inside in
    store-keeps i.heap c.store-done.new.self i.sorts.items i.issued i.table c.store-done.result c.args.x c.args.v c.store-done.ensures.done c.self.invariant
