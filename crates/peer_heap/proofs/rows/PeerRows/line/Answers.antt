-- What a name gave is shaded, and so is what a write takes out of its field.
use Rattle.std.proofs.Common.{sym, ap, subst}
use Rattle.std.specs.Prelude.{IfOk}
use Rattle.joint_machine.specs.declared.lines.Act.{Act}
use Rattle.joint_machine.specs.declared.events.Op.TheVariants as op
use Rattle.joint_machine.specs.Heaps.{place, place_or_none}
use Rattle.joint_machine.specs.Run.{thread_number}
use Rattle.row_heap.specs.Marks.{overwritten}
use Rattle.peer_heap.specs.Marks.{MarksAfter, MarksWritten}
use Rattle.peer_heap.proofs.Events.{goes-read}
use Rattle.peer_heap.proofs.Marks.{with-grey}
use Rattle.peer_heap.proofs.rows.PeerRows.line.Goals as goal

pub returns-in-WRead-clause-goes : goal.returns-in-WRead-clause-goes
returns-in-WRead-clause-goes c =
    let w = c.in-WRead in
    goes-read c.args.self.now c.read_name.new.self c.args.caller (op.Line c.args.act.now) w.v w.g c.read_name.result c.place-in-WRead.result
    (ap (λ (a : Act). op.Line a) w.is) c.place-in-WRead.ensures.at c.read_name.ensures.answers

pub returns-in-WRead-clause-marks : goal.returns-in-WRead-clause-marks
returns-in-WRead-clause-marks c = subst (λ (a : Act). MarksAfter c.args.is_open c.args.caller c.args.self.now.rows c.args.grey.now
    (op.Line a) c.read_name.result c.read_name.new.self.rows c.read_name.new.grey) (sym c.in-WRead.is) c.read_name.ensures.marks

pub returns-in-NewPeer-clause-marks : goal.returns-in-NewPeer-clause-marks
returns-in-NewPeer-clause-marks c = subst (λ (a : Act). IfOk c.make_peer.result
    (λ r. MarksAfter c.args.is_open c.args.caller c.args.self.now.rows c.args.grey.now (op.Line a) r c.make_peer.new.self.rows c.args.grey.now))
    (sym c.in-NewPeer.is) (with-grey c.make_peer.result c.args.self.now.rows c.make_peer.new.self.rows c.args.grey.now c.make_peer.ensures.marks)

pub returns-in-Set-clause-marks : goal.returns-in-Set-clause-marks
returns-in-Set-clause-marks c =
    let w = c.in-Set in
    let before = c.args.self.now.rows in
    let at : MarksWritten c.args.is_open before c.args.grey.now
    (overwritten before.heap (place (thread_number c.args.caller) w.v.0) w.i (place_or_none (thread_number c.args.caller) w.w)) c.set.new.self.rows c.set.new.grey =
    subst (λ z. MarksWritten c.args.is_open before c.args.grey.now (overwritten before.heap z w.i (place_or_none (thread_number c.args.caller) w.w)) c.set.new.self.rows c.set.new.grey)
    c.place-in-Set.ensures.at
    (subst (λ z. MarksWritten c.args.is_open before c.args.grey.now (overwritten before.heap c.place-in-Set.result w.i z) c.set.new.self.rows c.set.new.grey)
    c.place_or_none-w.ensures.at c.set.ensures.marks) in
    subst (λ (a : Act). MarksAfter c.args.is_open c.args.caller before c.args.grey.now (op.Line a) c.set.result c.set.new.self.rows c.set.new.grey) (sym w.is) at
