-- The heap did the definition's own.
use Rattle.joint_machine.specs.Heaps.{copied}
use Rattle.joint_machine.specs.Peers.{on_peer_heap, peer_name}
use Rattle.peer_heap.specs.Rows.{Rows, PeersAnswer, peers_in, rows_with}
use Rattle.std.proofs.Common.{subst}
use Rattle.peer_heap.proofs.Events.{answers-heap}
use Rattle.peer_heap.proofs.Lengths.{copy-keeps}
use Rattle.peer_heap.proofs.rows.PeerRows.copy.Goals as goal

pub returns-clause-answers : goal.returns-clause-answers
returns-clause-answers c =
    let i = c.self.inside in
    let old : Rows = rows_with i.heap i.sorts.items i.names i.issued i.table in
    subst (λ (z : Rows). PeersAnswer z (on_peer_heap (peers_in z) (copied peer_name z.rows.heap c.args.v c.args.w)) c.reply_of.result
    (rows_with c.copy-done.new.self i.sorts.items i.names i.issued i.table)) c.self.view_is
    (answers-heap old c.copy-done.new.self (λ name. copied name i.heap.heap c.args.v c.args.w) c.copy-done.result c.reply_of.result c.copy-done.ensures.done c.reply_of.ensures)

pub invariant_of-self : goal.invariant_of-self
invariant_of-self c =
    let i = c.self.inside in
    copy-keeps i.heap c.copy-done.new.self i.sorts.items i.issued i.table c.copy-done.result c.args.v c.args.w c.copy-done.ensures.done c.self.invariant
