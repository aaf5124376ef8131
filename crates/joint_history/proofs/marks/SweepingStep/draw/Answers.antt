use Rattle.joint_history.proofs.DriverMarks.{driver_ends}
use Rattle.seat_calls.proofs.Floors.{below_floor, room_left}
use Rattle.joint_history.proofs.marks.SweepingStep.draw.Goals as goal

pub sweep-requires-clause-own : goal.sweep-requires-clause-own
sweep-requires-clause-own c = driver_ends c.args.side.now.state.marking

pub sweep-requires-clause-may : goal.sweep-requires-clause-may
sweep-requires-clause-may c = record {
  takes = tt;
  below = below_floor c.args.seat.now.view 1 c.args.side.now.entries c.requires.asks.2;
  room = room_left c.args.seat.now.view 1 c.args.side.now.entries c.requires.asks.2;
  bare = c.requires.asks.1;
  targets = λ m x. absurd x;
}

pub unreachable-requires : goal.unreachable-requires
unreachable-requires c = (let w = rw c.in-Err.ensures.err.0 at c.requires.asks.0 in cc)
