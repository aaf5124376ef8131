use Rattle.peer_heap.specs.Sides.{seen}
use Rattle.joint_history.proofs.DriverMarks.{none_open, one_open, sweep_closes}
use Rattle.joint_history.proofs.marks.end_open.Goals as goal

pub returns-in-None-clause-closed : goal.returns-in-None-clause-closed
returns-in-None-clause-closed c = none_open c.args.side.now.state.marking c.in-None.ensures

pub draw-requires-clause-asks : goal.draw-requires-clause-asks
draw-requires-clause-asks c = (one_open _ c.args.side.now.state.marking c.in-Some.ensures, c.requires.may, c.requires.entries)

pub returns-in-Some-clause-closed : goal.returns-in-Some-clause-closed
returns-in-Some-clause-closed c = sweep_closes c.args.order.now c.args.seat.now c.draw.new.seat (seen c.args.side.now) (seen c.draw.new.side) c.args.index
    c.draw.result.0 c.draw.result.1 c.draw.ensures.drew.2
