use Rattle.std.proofs.Common.{[], None, refl, rules}
use Rattle.joint_machine.specs.Told.{contraction_of}
use Rattle.managed_heap.specs.Calls.{contract_made}
use Rattle.seat_calls.proofs.Floors.{below_floor, room_left}
use Rattle.managed_heap.specs.Sides.{as_side}
use Rattle.joint_history.proofs.SeatDraws.{drew_managed, plain_event_settled}
use Rattle.joint_history.proofs.driven.ContractionStep.draw.Goals as goal

pub contracted-requires-clause-may : goal.contracted-requires-clause-may
contracted-requires-clause-may c = λ k e. record {
  takes = tt;
  below = below_floor c.args.seat.now.view 0 c.args.side.now.entries c.requires.asks.2;
  room = room_left c.args.seat.now.view 0 c.args.side.now.entries c.requires.asks.2;
  bare = c.requires.asks.1 k e;
  targets = λ m x. absurd x;
}

pub returns-clause-settled : goal.returns-clause-settled
returns-clause-settled c =
    let d = c.requires.asks.0 in
    let a = (c.contracted.ensures.contracts d.cycle d.opened).adds d.comps d.heavy d.pairs d.contracted in
    let s = plain_event_settled _ _ c.args.seat.now _ c.args.side.now.state (contract_made d.cycle c.args.self.index c.args.self.sccs c.args.self.xrefs) (contraction_of d.comps d.heavy d.pairs) None
    [] a.draws.adds.number (record { cycles = refl; pin = refl; frees = λ told. refl; pins = λ seat. refl }) a.draws.adds.drawn.3 a.goes.lawful c.requires.settled in
    search rules

pub returns-clause-drew : goal.returns-clause-drew
returns-clause-drew c =
    let d = c.requires.asks.0 in
    let w = c.contracted.ensures.contracts d.cycle d.opened in record {
      cycle = d.cycle;
      opened = d.opened;
      comps = d.comps;
      heavy = d.heavy;
      pairs = d.pairs;
      contracted = d.contracted;
      threads = (w.adds d.comps d.heavy d.pairs d.contracted).threads;
      drew = λ cs hs xs w2. (
          let a = w.adds cs hs xs w2 in
          let m = drew_managed _ _ c.args.seat.now c.contracted.new.draw.seat.now (as_side c.args.side.now) (as_side c.contracted.new.self)
          (contract_made d.cycle c.args.self.index c.args.self.sccs c.args.self.xrefs)
          (contraction_of cs hs xs) a.draws.adds.number a.draws.adds.drawn.3 a.goes a.draws.adds.added refl _ a.draws.adds.drawn.2 in
          search rules);
    }
