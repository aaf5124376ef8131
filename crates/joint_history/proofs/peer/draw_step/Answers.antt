-- A peer's event sets no cell, and leaves the seat settled.
use Rattle.std.proofs.Common.{rules}
use Rattle.joint_machine.specs.Sides.{step_made}
use Rattle.joint_machine.specs.Told.{nothing}
use Rattle.peer_heap.specs.Sides.{seen}
use Rattle.seat_calls.proofs.Floors.{below_floor, room_left}
use Rattle.joint_history.proofs.SeatDraws.{drew_peer}
use Rattle.joint_history.proofs.peer.draw_step.Goals as goal

pub event-requires-clause-may : goal.event-requires-clause-may
event-requires-clause-may c = record {
  takes = c.requires.takes;
  below = below_floor c.args.seat.now.view 1 c.args.side.now.entries c.requires.entries;
  room = room_left c.args.seat.now.view 1 c.args.side.now.entries c.requires.entries;
  bare = c.requires.may;
  targets = λ m x. absurd x;
}

pub returns-clause-drew : goal.returns-clause-drew
returns-clause-drew c =
    let a = c.in_ok-reply.ensures.adds in
    let d = drew_peer _ _ c.args.seat.now _ (seen c.args.side.now) (seen c.event.new.self)
    (step_made c.args.caller c.args.index c.args.op.now c.in_ok-reply.reply c.args.cites) nothing a.draws.adds.number a.draws.adds.drawn.3 a.goes a.draws.adds.added _ a.draws.adds.drawn.2 in
    search rules
