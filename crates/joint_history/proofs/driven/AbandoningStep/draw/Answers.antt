use Rattle.std.proofs.Common.{ap, refl, rules, sym, ◌∙◌}
use Rattle.joint_machine.specs.ManagedReplay.{ManagedReplay}
use Rattle.joint_machine.specs.Sides.{managed_rules}
use Rattle.joint_machine.specs.Told.{nothing}
use Rattle.managed_heap.specs.Calls.{abandon_made, abandon_op}
use Rattle.managed_heap.proofs.Driving.{cycle-there}
use Rattle.seat_calls.proofs.Floors.{below_floor, room_left}
use Rattle.managed_heap.specs.Sides.{as_side}
use Rattle.joint_history.proofs.CycleDraws.{cycle_ended, cycle_open, drew_still, driver_may, frees_none}
use Rattle.joint_history.proofs.SeatDraws.{drew_managed}
use Rattle.joint_history.proofs.driven.AbandoningStep.draw.Goals as goal

pub abandon-requires-clause-may : goal.abandon-requires-clause-may
abandon-requires-clause-may c = λ k e.
    let settled = c.requires.settled in
    let may = driver_may c.args.order.now c.args.seat.now (abandon_op k) c.requires.asks.1.same refl refl refl c.requires.asks.1.owns c.requires.asks.1.pass
    (settled.paid, settled.stored.0, settled.stored.1) (cycle_open c.args.seat.now.view (as_side c.args.side.now) c.requires.asks.1.knows k e) in
    record {
      takes = tt;
      below = below_floor c.args.seat.now.view 0 c.args.side.now.entries c.requires.asks.1.knows.entries;
      room = room_left c.args.seat.now.view 0 c.args.side.now.entries c.requires.asks.1.knows.entries;
      bare = may;
      targets = λ m x. absurd x;
    }

pub settle_ended-requires : goal.settle_ended-requires
settle_ended-requires c =
    let k = cycle-there c.args.side.now.state.managed.cycle c.requires.asks.0 in
    let a = c.abandon.ensures.abandons k.0 k.1 in
    let w = cycle_ended _ _ c.args.seat.now _ (as_side c.args.side.now) (as_side c.abandon.new.self) _ k.0 c.requires.asks.1.knows c.requires.asks.1.owns c.requires.asks.1.same
    c.requires.settled k.1 a.draws.adds.drawn.3 refl refl refl (frees_none _ _ _ (ap (λ (r : ManagedReplay). r.managed.heap) a.goes.state) refl) in
    record { seat = search rules; agrees = search rules; freed = search rules; ended = search rules; outside = search rules }

pub returns-clause-drew : goal.returns-clause-drew
returns-clause-drew c =
    let k = cycle-there c.args.side.now.state.managed.cycle c.requires.asks.0 in
    let a = c.abandon.ensures.abandons k.0 k.1 in
    let m = drew_managed _ _ c.args.seat.now c.abandon.new.draw.seat.now (as_side c.args.side.now) (as_side c.abandon.new.self)
    (abandon_made k.0 c.args.self.index) nothing a.draws.adds.number a.draws.adds.drawn.3 a.goes a.draws.adds.added refl _ a.draws.adds.drawn.2 in
    let e = c.settle_ended.ensures in
    record {
      cycle = k.0;
      opened = k.1;
      threads = a.threads;
      drew =
          (let d = drew_still managed_rules 0 c.args.order.now c.args.seat.now c.abandon.new.draw.seat.now c.settle_ended.new.seat (as_side c.args.side.now)
          (as_side c.abandon.new.self) _ nothing m (e.order ∙ sym (m.appends.same ∙ c.requires.asks.1.same)) (search rules) (search rules) in d);
    }
