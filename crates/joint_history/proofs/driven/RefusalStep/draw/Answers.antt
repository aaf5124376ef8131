use Rattle.std.proofs.Common.{[], None, refl, rules}
use Rattle.joint_machine.specs.declared.names.Thread.TheVariants.{C}
use Rattle.joint_machine.specs.declared.events.Op.TheVariants as op
use Rattle.joint_machine.specs.Told.{phase_of}
use Rattle.joint_machine.specs.Sides.{step_made}
use Rattle.seat_calls.proofs.Floors.{below_floor, room_left}
use Rattle.managed_heap.specs.Sides.{as_side}
use Rattle.joint_history.proofs.SeatDraws.{drew_managed, plain_event_settled}
use Rattle.joint_history.proofs.driven.RefusalStep.draw.Goals as goal

pub refused-requires-clause-may : goal.refused-requires-clause-may
refused-requires-clause-may c = record {
  takes = tt;
  below = below_floor c.args.seat.now.view 0 c.args.side.now.entries c.requires.asks.2;
  room = room_left c.args.seat.now.view 0 c.args.side.now.entries c.requires.asks.2;
  bare = c.requires.asks.1;
  targets = λ m x. absurd x;
}

pub returns-clause-settled : goal.returns-clause-settled
returns-clause-settled c =
    let a = c.in_ok-reply.ensures.adds in
    let s = plain_event_settled _ _ c.args.seat.now _ c.args.side.now.state (step_made C c.args.self.index (op.Refused c.args.self.word) c.in_ok-reply.reply None) (phase_of c.args.self.phase) None
    [] a.draws.adds.number (record { cycles = refl; pin = refl; frees = λ told. refl; pins = λ seat. refl }) a.draws.adds.drawn.3 a.goes.lawful c.requires.settled in
    search rules

pub returns-clause-drew : goal.returns-clause-drew
returns-clause-drew c =
    let a = c.in_ok-reply.ensures.adds in
    let d = drew_managed _ _ c.args.seat.now c.refused.new.draw.seat.now (as_side c.args.side.now) (as_side c.refused.new.self)
    (step_made C c.args.self.index (op.Refused c.args.self.word) c.in_ok-reply.reply None)
    (phase_of c.args.self.phase) a.draws.adds.number a.draws.adds.drawn.3 a.goes a.draws.adds.added refl _ a.draws.adds.drawn.2 in
    search rules
