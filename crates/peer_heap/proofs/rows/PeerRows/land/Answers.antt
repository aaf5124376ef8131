-- The static holds the peer that the handle leads to, if it leads to one; the peer is shaded before.
use Rattle.std.proofs.Common.{◌≡◌, Some, sym, ap, subst, ◌∙◌}
use Rattle.joint_machine.specs.declared.events.Reply.TheVariants as says
use Rattle.joint_machine.specs.Heaps.{with_static}
use Rattle.joint_machine.specs.Peers.{landed}
use Rattle.joint_machine.specs.PeerReplay.{opening_peer_replay, table_target}
use Rattle.row_heap.specs.Rows.{HeapRows}
use Rattle.peer_heap.specs.Rows.{Rows, PeersAnswer, peers_in, with_rows}
use Rattle.peer_heap.proofs.Events.{answers-no_land, answers-landed}
use Rattle.peer_heap.proofs.Marks.{shaded-before}
use Rattle.peer_heap.proofs.rows.PeerRows.land.Goals as goal

pub returns-in-None-clause-answers : goal.returns-in-None-clause-answers
returns-in-None-clause-answers c = answers-no_land c.args.self.now c.args.x (table_target (with_rows opening_peer_replay c.args.self.now) c.args.h.0) c.in-None.ensures

pub returns-in-Some-clause-answers : goal.returns-in-Some-clause-answers
returns-in-Some-clause-answers c =
    let old = c.args.self.now in
    let p = c.in-Some.p in
    let target = table_target (with_rows opening_peer_replay old) c.args.h.0 in
    let seen = c.self.view_is ∙ c.bring_back.ensures.rest in
    let named = ap (λ (v : HeapRows). v.heap) c.set_static.ensures ∙ ap (λ (z : Rows). with_static z.rows.heap c.args.x (Some p.0)) seen in
    subst (λ (z : Rows). PeersAnswer old (landed (peers_in old) c.args.x target) (says.P p) (record z { rows = c.set_static.new.self })) (sym seen)
    (answers-landed old c.set_static.new.self c.args.x target p c.in-Some.ensures named)

pub returns-in-Some-clause-marks : goal.returns-in-Some-clause-marks
returns-in-Some-clause-marks c =
    let p = c.in-Some.p in
    let mid = c.bring_back.new.self in
    let slotted = c.set_static.ensures ∙ ap (λ (z : Rows). record z.rows { heap = with_static c.self.inside.heap.heap c.args.x (Some p.0) }) c.self.view_is in
    shaded-before c.args.is_open c.args.self.now.rows mid.rows c.set_static.new.self c.args.grey.now c.bring_back.new.grey
    (with_static c.self.inside.heap.heap c.args.x (Some p.0)) (λ k. k ≡ p.0) slotted (ap (λ (z : Rows). z.rows) c.bring_back.ensures.rest) c.bring_back.ensures.shaded
