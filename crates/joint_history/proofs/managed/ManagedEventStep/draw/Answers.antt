-- A step sets no cell, and is plain.
use Rattle.std.proofs.Common.{ap, rules}
use Rattle.joint_machine.specs.Told.{nothing}
use Rattle.joint_machine.specs.Sides.{step_made}
use Rattle.seat_calls.proofs.Floors.{below_floor, room_left}
use Rattle.view_laws.specs.Knowing.{pins_of}
use Rattle.managed_heap.specs.Sides.{as_side}
use Rattle.joint_history.proofs.SeatDraws.{drew_managed, plain_event_settled, step_is_plain, step_sets_none}
use Rattle.joint_history.proofs.managed.ManagedEventStep.draw.Goals as goal

pub step-requires-clause-may : goal.step-requires-clause-may
step-requires-clause-may c = record {
  takes = c.requires.asks.3;
  below = below_floor c.args.seat.now.view 0 c.args.side.now.entries c.requires.asks.5;
  room = room_left c.args.seat.now.view 0 c.args.side.now.entries c.requires.asks.5;
  bare = c.requires.asks.4;
  targets = λ m x. absurd (step_sets_none c.args.side.now.state c.args.self.caller c.args.self.op.now m c.requires.asks.0 x);
}

pub returns-clause-settled : goal.returns-clause-settled
returns-clause-settled c =
    let a = c.in_ok-reply.ensures.adds in
    let s = plain_event_settled _ _ c.args.seat.now _ c.args.side.now.state (step_made c.args.self.caller c.args.self.index c.args.self.op.now c.in_ok-reply.reply c.args.self.cites)
    nothing _ _ a.draws.adds.number (step_is_plain c.args.self.caller c.args.self.op.now c.in_ok-reply.reply c.requires.asks.0) a.draws.adds.drawn.3 a.goes.lawful c.requires.settled in
    search rules

pub returns-clause-drew : goal.returns-clause-drew
returns-clause-drew c =
    let a = c.in_ok-reply.ensures.adds in
    let d = drew_managed _ _ c.args.seat.now c.step.new.draw.seat.now (as_side c.args.side.now) (as_side c.step.new.self)
    (step_made c.args.self.caller c.args.self.index c.args.self.op.now c.in_ok-reply.reply c.args.self.cites) nothing a.draws.adds.number a.draws.adds.drawn.3 a.goes a.draws.adds.added
    (ap pins_of ((step_is_plain c.args.self.caller c.args.self.op.now c.in_ok-reply.reply c.requires.asks.0).pins c.args.seat.now)) _ a.draws.adds.drawn.2 in
    search rules
