-- The variable names the peer that the handle leads to, if it leads to one; the peer is shaded before.
use Rattle.std.proofs.Common.{◌≡◌, Some, sym, ap, subst, ◌∙◌}
use Rattle.joint_machine.specs.declared.events.Reply.TheVariants as says
use Rattle.joint_machine.specs.Heaps.{with_var}
use Rattle.joint_machine.specs.Peers.{peer_read}
use Rattle.joint_machine.specs.PeerReplay.{opening_peer_replay, table_target}
use Rattle.row_heap.specs.Rows.{HeapRows}
use Rattle.peer_heap.specs.Rows.{Rows, PeersAnswer, peers_in, with_rows}
use Rattle.peer_heap.proofs.Events.{answers-no_read, answers-read}
use Rattle.peer_heap.proofs.Marks.{shaded-before}
use Rattle.peer_heap.proofs.rows.PeerRows.read_handle.Goals as goal

pub returns-in-None-clause-answers : goal.returns-in-None-clause-answers
returns-in-None-clause-answers c = answers-no_read c.args.self.now c.args.v (table_target (with_rows opening_peer_replay c.args.self.now) c.args.h.0) c.in-None.ensures

pub returns-in-Some-clause-answers : goal.returns-in-Some-clause-answers
returns-in-Some-clause-answers c =
    let old = c.args.self.now in
    let p = c.in-Some.p in
    let target = table_target (with_rows opening_peer_replay old) c.args.h.0 in
    let seen = c.self.view_is ∙ c.bring_back.ensures.rest in
    let named = ap (λ (v : HeapRows). v.heap) c.set_var.ensures ∙ ap (λ (z : Rows). with_var z.rows.heap c.args.v (Some p.0)) seen in
    subst (λ (z : Rows). PeersAnswer old (peer_read (peers_in old) c.args.v target) (says.P p) (record z { rows = c.set_var.new.self })) (sym seen)
    (answers-read old c.set_var.new.self c.args.v target p c.in-Some.ensures named)

pub returns-in-Some-clause-marks : goal.returns-in-Some-clause-marks
returns-in-Some-clause-marks c =
    let p = c.in-Some.p in
    let mid = c.bring_back.new.self in
    let slotted = c.set_var.ensures ∙ ap (λ (z : Rows). record z.rows { heap = with_var c.self.inside.heap.heap c.args.v (Some p.0) }) c.self.view_is in
    shaded-before c.args.is_open c.args.self.now.rows mid.rows c.set_var.new.self c.args.grey.now c.bring_back.new.grey
    (with_var c.self.inside.heap.heap c.args.v (Some p.0)) (λ k. k ≡ p.0) slotted (ap (λ (z : Rows). z.rows) c.bring_back.ensures.rest) c.bring_back.ensures.shaded
