use Rattle.std.proofs.Common.{ap, ◌∙◌}
use Rattle.joint_machine.specs.declared.names.Thread.TheVariants.{C}
use Rattle.joint_machine.specs.declared.events.Op.TheVariants as op
use Rattle.peer_heap.specs.Sides.{Reserve}
use Rattle.joint_history.proofs.DriverMarks.{leaves_none}
use Rattle.joint_history.proofs.Fitting.{peer_may_on}
use Rattle.joint_history.proofs.marks.BeginningStep.draw.Goals as goal

pub draw_begin-number-requires-clause-reserved : goal.draw_begin-number-requires-clause-reserved
draw_begin-number-requires-clause-reserved c =
    let w = leaves_none c.args.order.now c.args.seat.now c.end_open-ended.new.seat c.args.side.now c.end_open-ended.new.side c.args.self.index c.end_open-ended.result c.end_open-ended.ensures.ends in
    ap (λ (x : Reserve). x.marking) w.reserve ∙ c.requires.asks.0

pub draw_begin-number-requires-clause-may : goal.draw_begin-number-requires-clause-may
draw_begin-number-requires-clause-may c =
    let w = leaves_none c.args.order.now c.args.seat.now c.end_open-ended.new.seat c.args.side.now c.end_open-ended.new.side c.args.self.index c.end_open-ended.result c.end_open-ended.ensures.ends in
    peer_may_on C c.args.order.now c.args.seat.now c.end_open-ended.new.seat op.Begin w.further c.requires.asks.2

pub draw_begin-number-requires-clause-entries : goal.draw_begin-number-requires-clause-entries
draw_begin-number-requires-clause-entries c =
    let w = leaves_none c.args.order.now c.args.seat.now c.end_open-ended.new.seat c.args.side.now c.end_open-ended.new.side c.args.self.index c.end_open-ended.result c.end_open-ended.ensures.ends in
    w.line c.requires.asks.3

pub returns-clause-drew : goal.returns-clause-drew
returns-clause-drew c = record {
  between = c.end_open-ended.new.seat;
  cleared = c.end_open-ended.new.side;
  ends = c.end_open-ended.ensures.ends;
  begins = c.draw_begin-number.ensures.drew;
  reserve = c.draw_begin-number.ensures.reserve;
  threads = c.draw_begin-number.ensures.threads;
}
