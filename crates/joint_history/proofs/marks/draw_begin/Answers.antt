use Rattle.seat_calls.proofs.Floors.{below_floor, room_left}
use Rattle.joint_history.proofs.marks.draw_begin.Goals as goal

pub mark_begin-requires-clause-may : goal.mark_begin-requires-clause-may
mark_begin-requires-clause-may c = record {
  takes = tt;
  below = below_floor c.args.seat.now.view 1 c.args.side.now.entries c.requires.entries;
  room = room_left c.args.seat.now.view 1 c.args.side.now.entries c.requires.entries;
  bare = c.requires.may;
  targets = λ m x. absurd x;
}

pub unreachable-requires : goal.unreachable-requires
unreachable-requires c = (let w = c.in-Err.ensures.own c.requires.reserved c.requires.closed in cc)

pub returns-clause-reserve : goal.returns-clause-reserve
returns-clause-reserve c = c.in-Ok.ensures.reserve

pub returns-clause-threads : goal.returns-clause-threads
returns-clause-threads c = c.in-Ok.ensures.begun.threads
