use Rattle.seat_calls.proofs.Floors.{floor_low, floor_high}
use Rattle.joint_history.proofs.snaps.SeatGateDraw.draw.Goals as goal

pub returns-clause-low : goal.returns-clause-low
returns-clause-low c = floor_low c.args.self.now.seat.now.view _ c.append_paid.ensures.number

pub returns-clause-high : goal.returns-clause-high
returns-clause-high c = floor_high c.append_paid.new.seat.view _ _ _ c.append_paid.ensures.grows.role
