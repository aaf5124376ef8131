use Rattle.std.proofs.Common.{refl, rules, sym, ◌∙◌}
use Rattle.joint_history.proofs.Scanning.{closes_gate}
use Rattle.joint_history.proofs.snaps.SeatGateCloses.close.Goals as goal

pub returns-in-Ok : goal.returns-in-Ok
returns-in-Ok c =
    let e = c.in-Ok.ensures in
    let w = closes_gate c.args.self.now.seat.now c.close_and_scan.new.seat c.args.cycle.0 c.in-Ok.words c.pins_of.result.at
    (e.order ∙ sym c.requires.may.0) e.closes e.scanned (search rules) c.pins_of.ensures e.held in
    record { closed = (refl, refl, w) }
