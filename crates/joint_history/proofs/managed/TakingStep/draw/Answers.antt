-- The pin that the managed seat finds stands, and is told; the seat is settled once it is cleared.
use Rattle.std.proofs.Common.{◌≡◌, [], Option, None, ap, ◌∙◌, subst, sym, rules}
use Rattle.std.specs.Prelude.{false}
use Rattle.joint_machine.specs.declared.names.MNum.{MNum}
use Rattle.joint_machine.specs.HistoryLines.{caller_line}
use Rattle.joint_machine.specs.Run.{thread_number}
use Rattle.joint_machine.specs.Sides.{managed_rules, step_made}
use Rattle.joint_machine.specs.Told.{kept_pins, nothing}
use Rattle.known_laws.specs.Known.{PinsStand}
use Rattle.managed_heap.specs.Pinned.{pin_given}
use Rattle.managed_heap.specs.Steps.{take_op}
use Rattle.order_table.specs.Rows.{at}
use Rattle.seat_calls.specs.Passing.{MayAppend}
use Rattle.seat_calls.proofs.Floors.{below_floor, room_left}
use Rattle.managed_heap.specs.Sides.{as_side}
use Rattle.joint_history.specs.Locked.{StaysSeated}
use Rattle.joint_history.proofs.Looking.{drew_between, knows_looked, seated, settled_looked}
use Rattle.joint_history.proofs.SeatDraws.{drew_managed}
use Rattle.joint_history.proofs.TakenPins.{finds_same, leaves_pin, pin_line, take_may, taken_stands, taken_told}
use Rattle.joint_history.proofs.managed.TakingStep.draw.Goals as goal

pub own_pin-pin-requires-clause-seat : goal.own_pin-pin-requires-clause-seat
own_pin-pin-requires-clause-seat c = (c.requires.asks.3.same, c.requires.asks.3.owns)

pub own_pin-pin-requires-clause-reader : goal.own_pin-pin-requires-clause-reader
own_pin-pin-requires-clause-reader c = (
  c.reader_of-reader.ensures.few.0,
  c.reader_of-reader.ensures.few.1,
  pin_line c.args.self.caller c.reader_of-reader.result c.args.seat.now.view c.requires.asks.0 c.reader_of-reader.ensures.number c.requires.asks.3.pass,
)

pub take-requires-clause-stands : goal.take-requires-clause-stands
take-requires-clause-stands c = subst (λ n. PinsStand c.args.side.now.state.managed (pin_given n c.own_pin-pin.result)) c.reader_of-reader.ensures.number
    (taken_stands c.args.seat.now.view (as_side c.args.side.now) c.reader_of-reader.result c.own_pin-pin.result
    c.reader_of-reader.ensures.few.0 c.reader_of-reader.ensures.few.1 c.requires.asks.3.knows c.own_pin-pin.ensures.pin)

pub take-requires-clause-may : goal.take-requires-clause-may
take-requires-clause-may c =
    let seat = c.own_pin-pin.new.seat in
    let stays = c.own_pin-pin.ensures.stays in
    let ks = knows_looked c.args.seat.now.view seat.view (as_side c.args.side.now) stays c.requires.asks.3.knows in
    let may : (aim : Option MNum) → MayAppend c.args.order.now seat 0 c.args.self.caller
    (take_op c.args.self.v) aim = λ aim. take_may c.args.order.now seat c.args.self.caller c.args.self.v aim c.requires.asks.0 c.own_pin-pin.ensures.order
    (ap (λ os. at false os 0) stays.owns ∙ c.requires.asks.3.owns) (ap (λ os. at false os (caller_line c.args.self.caller)) stays.owns ∙ c.requires.asks.3.pass)
    (settled_looked c.args.seat.now.view seat.view stays c.requires.settled) in
    record {
      takes = c.requires.asks.2;
      below = below_floor seat.view 0 c.args.side.now.entries ks.entries;
      room = room_left seat.view 0 c.args.side.now.entries ks.entries;
      bare = may None;
      targets = λ m x. absurd x;
    }

pub settle_taken-requires-clause-empty : goal.settle_taken-requires-clause-empty
settle_taken-requires-clause-empty c =
    let a = c.in_ok-reply.ensures.adds in
    let seat = c.own_pin-pin.new.seat in
    let stays = c.own_pin-pin.ensures.stays in
    let w = leaves_pin _ _ seat _ c.args.self.caller c.args.self.index c.args.self.v c.in_ok-reply.reply None
    [] a.draws.adds.number c.reader_of-reader.result c.requires.asks.0 c.reader_of-reader.ensures.number
    (ap (λ os. at false os 0) stays.owns ∙ c.requires.asks.3.owns) (settled_looked c.args.seat.now.view seat.view stays c.requires.settled) a.draws.adds.drawn.3 in
    let z = w.empty in
    search rules

pub settle_taken-requires-clause-owes : goal.settle_taken-requires-clause-owes
settle_taken-requires-clause-owes c =
    let a = c.in_ok-reply.ensures.adds in
    let seat = c.own_pin-pin.new.seat in
    let stays = c.own_pin-pin.ensures.stays in
    let w = leaves_pin _ _ seat _ c.args.self.caller c.args.self.index c.args.self.v c.in_ok-reply.reply None
    [] a.draws.adds.number c.reader_of-reader.result c.requires.asks.0 c.reader_of-reader.ensures.number
    (ap (λ os. at false os 0) stays.owns ∙ c.requires.asks.3.owns) (settled_looked c.args.seat.now.view seat.view stays c.requires.settled) a.draws.adds.drawn.3 in
    let z = w.owes in
    search rules

pub returns-clause-drew : goal.returns-clause-drew
returns-clause-drew c =
    let a = c.in_ok-reply.ensures.adds in
    let seat = c.own_pin-pin.new.seat in
    let stays = c.own_pin-pin.ensures.stays in
    let pin = c.own_pin-pin.result in
    let d = drew_managed _ _ seat c.take.new.draw.seat.now (as_side c.args.side.now) (as_side c.take.new.self)
    (step_made c.args.self.caller c.args.self.index (take_op c.args.self.v) c.in_ok-reply.reply None)
    (kept_pins (pin_given (thread_number c.args.self.caller) pin) nothing) a.draws.adds.number a.draws.adds.drawn.3 a.goes a.draws.adds.added
    (taken_told seat c.args.self.caller c.args.self.v c.reader_of-reader.result pin
    c.requires.asks.0 c.reader_of-reader.ensures.number (finds_same c.args.seat.now.view seat.view c.reader_of-reader.result pin stays.known c.own_pin-pin.ensures.pin)) _ a.draws.adds.drawn.2 in
    let before = seated c.args.seat.now seat (c.own_pin-pin.ensures.order ∙ sym c.requires.asks.3.same) stays in
    let same : c.settle_taken.new.seat.order ≡ c.take.new.draw.seat.now.order = c.settle_taken.ensures.order ∙ sym (d.appends.same ∙ c.own_pin-pin.ensures.order) in
    let after : StaysSeated c.take.new.draw.seat.now c.settle_taken.new.seat = (let o = c.settle_taken.ensures.same in search rules) in (
      a.threads,
      record {
        pin = pin;
        stands = subst (λ n. PinsStand c.args.side.now.state.managed (pin_given n pin)) c.reader_of-reader.ensures.number
            (taken_stands c.args.seat.now.view (as_side c.args.side.now) c.reader_of-reader.result pin
            c.reader_of-reader.ensures.few.0 c.reader_of-reader.ensures.few.1 c.requires.asks.3.knows c.own_pin-pin.ensures.pin);
        drew = drew_between managed_rules 0 c.args.order.now c.args.seat.now seat c.take.new.draw.seat.now c.settle_taken.new.seat
            (as_side c.args.side.now) (as_side c.take.new.self) _ _ before d after;
      },
      tt,
    )
