use Rattle.std.proofs.Common.{rules}
use Rattle.joint_machine.specs.Told.{nothing}
use Rattle.peer_heap.specs.Cycles.{restores}
use Rattle.seat_calls.proofs.Floors.{below_floor, room_left}
use Rattle.joint_history.proofs.SeatDraws.{peer_settled}
use Rattle.joint_history.proofs.handles.RestoringStep.draw.Goals as goal

pub restore_one-back-requires-clause-may : goal.restore_one-back-requires-clause-may
restore_one-back-requires-clause-may c = record {
  takes = tt;
  below = below_floor c.args.seat.now.view 1 c.args.side.now.entries c.requires.asks.2;
  room = room_left c.args.seat.now.view 1 c.args.side.now.entries c.requires.asks.2;
  bare = c.requires.asks.1;
  targets = λ m x. absurd x;
}

pub returns-clause-settled : goal.returns-clause-settled
returns-clause-settled c =
    let a = c.restore_one-back.ensures.adds in
    let s = peer_settled _ _ c.args.seat.now _ c.args.side.now.state
    (restores c.args.self.index c.args.self.h c.restore_one-back.result) nothing a.draws.adds.number a.draws.adds.drawn.3 a.goes.lawful c.requires.settled in
    search rules
