-- What a handle gave is shaded.
use Rattle.std.proofs.Common.{sym, subst}
use Rattle.peer_heap.specs.Steps.{IsRelease}
use Rattle.std.specs.Prelude.{IfOk}
use Rattle.joint_machine.specs.declared.events.Op.{Op}
use Rattle.peer_heap.specs.Marks.{MarksAfter}
use Rattle.peer_heap.proofs.Events.{goes-landed}
use Rattle.peer_heap.proofs.Marks.{with-grey}
use Rattle.peer_heap.proofs.rows.PeerRows.event.Goals as goal

pub returns-in-Land-clause-goes : goal.returns-in-Land-clause-goes
returns-in-Land-clause-goes c = goes-landed c.args.self.now c.land.new.self c.args.caller c.args.op.now c.in-Land.h c.in-Land.x c.land.result c.in-Land.is c.land.ensures.answers

pub returns-in-Land-clause-marks : goal.returns-in-Land-clause-marks
returns-in-Land-clause-marks c = subst (λ (o : Op). MarksAfter c.args.is_open c.args.caller c.args.self.now.rows c.args.grey.now o c.land.result c.land.new.self.rows c.land.new.grey)
    (sym c.in-Land.is) c.land.ensures.marks

pub returns-in-Make-clause-marks : goal.returns-in-Make-clause-marks
returns-in-Make-clause-marks c = subst (λ (o : Op). IfOk c.make_pair.result
    (λ r. MarksAfter c.args.is_open c.args.caller c.args.self.now.rows c.args.grey.now o r c.make_pair.new.self.rows c.args.grey.now))
    (sym c.in-Make.is) (with-grey c.make_pair.result c.args.self.now.rows c.make_pair.new.self.rows c.args.grey.now c.make_pair.ensures.marks)

pub line-requires-clause-last : goal.line-requires-clause-last
line-requires-clause-last c = c.requires.last (λ r. subst IsRelease c.in-Line.is r)

pub make_pair-requires : goal.make_pair-requires
make_pair-requires c = c.requires.last (λ r. subst IsRelease c.in-Make.is r)

pub grip-requires-clause-last : goal.grip-requires-clause-last
grip-requires-clause-last c = c.requires.last (λ r. subst IsRelease c.in-Grip.is r)
