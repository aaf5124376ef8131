use Rattle.seat_calls.proofs.Floors.{below_floor, room_left}
use Rattle.joint_history.proofs.handles.ClearingStep.draw.Goals as goal

pub clear-requires-clause-may : goal.clear-requires-clause-may
clear-requires-clause-may c = record {
  takes = tt;
  below = below_floor c.args.seat.now.view 1 c.args.side.now.entries c.requires.asks.3;
  room = room_left c.args.seat.now.view 1 c.args.side.now.entries c.requires.asks.3;
  bare = c.requires.asks.2;
  targets = λ m x. absurd x;
}
