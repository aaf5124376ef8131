use Rattle.std.proofs.Common.{ap, rules, sym, ◌∙◌}
use Rattle.joint_machine.specs.ManagedReplay.{ManagedReplay}
use Rattle.joint_machine.specs.Sides.{Side}
use Rattle.seat_calls.proofs.Floors.{below_floor, room_left}
use Rattle.managed_heap.specs.Sides.{as_side}
use Rattle.joint_history.proofs.CycleDraws.{cycle_next}
use Rattle.joint_history.proofs.Scanning.{knows_gate, pins_stand, snap_drawn, snap_may, snapshot_still}
use Rattle.joint_history.proofs.snaps.SnappingStep.draw.Goals as goal

pub snap-requires-clause-close : goal.snap-requires-clause-close
snap-requires-clause-close c = λ e. (c.requires.asks.1.same, c.requires.asks.1.owns, c.requires.settled, (cycle_next c.args.seat.now.view (as_side c.args.side.now) c.requires.asks.1.knows e).1)

pub snap-requires-clause-stand : goal.snap-requires-clause-stand
snap-requires-clause-stand c = λ pins g w. pins_stand c.args.seat.now g.seat.now (as_side c.args.side.now) _ pins c.requires.asks.1.knows w.2

pub snap-requires-clause-may : goal.snap-requires-clause-may
snap-requires-clause-may c = λ pins g w.
    let ks = knows_gate c.args.seat.now g.seat.now (as_side c.args.side.now) _ pins c.requires.asks.1.knows w.2 in
    record {
      takes = tt;
      below = below_floor g.seat.now.view 0 c.args.side.now.entries ks.entries;
      room = room_left g.seat.now.view 0 c.args.side.now.entries ks.entries;
      bare = snap_may c.args.order.now g.order.now c.args.seat.now g.seat.now
          (as_side c.args.side.now) pins c.requires.asks.1.same w.1 c.requires.asks.1.owns c.requires.asks.1.pass c.requires.settled c.requires.asks.1.knows c.requires.asks.0 w.2;
      targets = λ m x. absurd x;
    }

pub settle_opened-requires-clause-agrees : goal.settle_opened-requires-clause-agrees
settle_opened-requires-clause-agrees c =
    let o = c.in_ok-opened.ensures.snaps in
    let w = snap_drawn _ _ _ c.args.order.now o.gate.order.now _ c.args.seat.now o.gate.seat.now _ (as_side c.args.side.now)
    (as_side c.snap.new.self) c.args.self.index o.pins c.in_ok-opened.opened c.requires.asks.1.same o.closes.1
    c.requires.asks.1.owns c.requires.asks.1.knows c.requires.asks.0 o.closes.2 o.opens o.opens.adds.draws.adds.drawn.1 in
    search rules

pub settle_opened-requires-clause-freed : goal.settle_opened-requires-clause-freed
settle_opened-requires-clause-freed c =
    let o = c.in_ok-opened.ensures.snaps in
    let w = snap_drawn _ _ _ c.args.order.now o.gate.order.now _ c.args.seat.now o.gate.seat.now _ (as_side c.args.side.now)
    (as_side c.snap.new.self) c.args.self.index o.pins c.in_ok-opened.opened c.requires.asks.1.same o.closes.1
    c.requires.asks.1.owns c.requires.asks.1.knows c.requires.asks.0 o.closes.2 o.opens o.opens.adds.draws.adds.drawn.1 in
    search rules

pub settle_opened-requires-clause-opened : goal.settle_opened-requires-clause-opened
settle_opened-requires-clause-opened c =
    let o = c.in_ok-opened.ensures.snaps in
    let w = snap_drawn _ _ _ c.args.order.now o.gate.order.now _ c.args.seat.now o.gate.seat.now _ (as_side c.args.side.now)
    (as_side c.snap.new.self) c.args.self.index o.pins c.in_ok-opened.opened c.requires.asks.1.same o.closes.1
    c.requires.asks.1.owns c.requires.asks.1.knows c.requires.asks.0 o.closes.2 o.opens o.opens.adds.draws.adds.drawn.1 in
    search rules

pub returns-clause-drew : goal.returns-clause-drew
returns-clause-drew c =
    let o = c.in_ok-opened.ensures.snaps in
    let w = snap_drawn _ _ _ c.args.order.now o.gate.order.now _ c.args.seat.now o.gate.seat.now _ (as_side c.args.side.now)
    (as_side c.snap.new.self) c.args.self.index o.pins c.in_ok-opened.opened c.requires.asks.1.same o.closes.1
    c.requires.asks.1.owns c.requires.asks.1.knows c.requires.asks.0 o.closes.2 o.opens o.opens.adds.draws.adds.drawn.1 in
    let e = c.settle_opened.ensures in (
      search rules,
      snapshot_still c.args.order.now c.args.seat.now c.snap.new.gate.seat.now c.settle_opened.new.seat (as_side c.args.side.now)
          (as_side c.snap.new.self) c.args.self.index c.in_ok-opened.opened w.draws (e.order ∙ sym w.settle.same) (search rules) (search rules),
      tt,
      tt,
    )

pub returns-in_err-opened-clause-drew : goal.returns-in_err-opened-clause-drew
returns-in_err-opened-clause-drew c = (ap (λ (s : Side ManagedReplay). s.threads) c.in_err-opened.ensures.err, search rules, search rules, search rules)
