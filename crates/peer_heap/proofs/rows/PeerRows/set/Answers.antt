-- The heap did the definition's own; what it overwrote was shaded before.
use Rattle.joint_machine.specs.Heaps.{field_set}
use Rattle.joint_machine.specs.Peers.{on_peer_heap}
use Rattle.row_heap.specs.Marks.{overwritten}
use Rattle.peer_heap.specs.Rows.{Rows, PeersAnswer, peers_in, rows_with}
use Rattle.std.proofs.Common.{◌≡◌, Some, ap, subst, ◌∙◌}
use Rattle.peer_heap.proofs.Events.{answers-heap}
use Rattle.peer_heap.proofs.Lengths.{set-keeps}
use Rattle.peer_heap.proofs.Marks.{shaded-before}
use Rattle.peer_heap.proofs.rows.PeerRows.set.Goals as goal

pub shade_field-requires-clause-v : goal.shade_field-requires-clause-v
shade_field-requires-clause-v c = c.requires.v

pub shade_field-requires-clause-w : goal.shade_field-requires-clause-w
shade_field-requires-clause-w c = c.requires.w

pub returns-clause-answers : goal.returns-clause-answers
returns-clause-answers c =
    let i = c.self.inside in
    let old : Rows = rows_with i.heap i.sorts.items i.names i.issued i.table in
    let a = subst (λ (z : Rows). PeersAnswer z (on_peer_heap (peers_in z) (field_set z.rows.heap c.args.v c.args.i c.args.w)) c.reply_of.result
    (rows_with c.set-done.new.self i.sorts.items i.names i.issued i.table)) (c.self.view_is ∙ c.shade_field.ensures.rest)
    (answers-heap old c.set-done.new.self (λ name. field_set i.heap.heap c.args.v c.args.i c.args.w) c.set-done.result c.reply_of.result c.set-done.ensures.done c.reply_of.ensures) in
    record { peers = a.peers; table = a.table }

pub returns-clause-marks : goal.returns-clause-marks
returns-clause-marks c =
    let old = c.args.self.now.rows in
    let mid = c.shade_field.new.self.rows in
    let new = c.set-done.new.self in
    shaded-before c.args.is_open old mid new c.args.grey.now c.shade_field.new.grey new.heap (λ k. overwritten old.heap c.args.v c.args.i c.args.w ≡ Some k)
    (c.set-done.ensures.rest ∙ ap (λ (z : Rows). record z.rows { heap = new.heap }) c.self.view_is) (ap (λ (z : Rows). z.rows) c.shade_field.ensures.rest) c.shade_field.ensures.shaded

pub returns-clause-tabled : goal.returns-clause-tabled
returns-clause-tabled c = ap (λ (z : Rows). z.tabled) (c.self.view_is ∙ c.shade_field.ensures.rest)

pub invariant_of-self : goal.invariant_of-self
invariant_of-self c =
    let i = c.self.inside in
    set-keeps i.heap c.set-done.new.self i.sorts.items i.issued i.table c.set-done.result c.args.v c.args.i c.args.w c.set-done.ensures.done c.self.invariant
