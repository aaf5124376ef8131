-- The cell's word tells whether the cell is set; the entry is plain.
use Rattle.std.proofs.Common.{◌≡◌, [], Option, Some, None, ap, ◌∙◌, refl, subst, arith, rules}
use Rattle.std.specs.Prelude.{false}
use Rattle.std.proofs.lemmas.Option.{same_Some}
use Rattle.joint_machine.proofs.Deciding.{none_some}
use Rattle.joint_machine.specs.declared.names.MNum.{MNum}
use Rattle.joint_machine.specs.HistoryLines.{caller_line}
use Rattle.joint_machine.specs.Sides.{MaySetCell, managed_rules, step_made}
use Rattle.order_table.specs.Rows.{at}
use Rattle.seat_calls.specs.Passing.{MayAppend}
use Rattle.joint_machine.specs.Told.{nothing}
use Rattle.managed_heap.specs.Steps.{weak_op}
use Rattle.seat_calls.proofs.Floors.{below_floor, room_left}
use Rattle.managed_heap.specs.Sides.{as_side}
use Rattle.view_laws.specs.Knowing.{pins_of}
use Rattle.joint_history.proofs.Looking.{drew_between, knows_looked, seated, settled_looked}
use Rattle.joint_history.proofs.SeatDraws.{drew_managed, plain_event_settled}
use Rattle.joint_history.proofs.SetCells.{unset_word, weak_is_plain, weak_may}
use Rattle.joint_history.proofs.managed.CellSettingStep.draw.Goals as goal

pub weak-requires-clause-word : goal.weak-requires-clause-word
weak-requires-clause-word c = unset_word c.args.seat.now.view (as_side c.args.side.now) c.args.self.k.0 c.load_cell-word.result c.requires.asks.4.knows
    (c.load_cell-word.ensures.says c.requires.asks.4.owns c.requires.settled.paid)

pub weak-requires-clause-may : goal.weak-requires-clause-may
weak-requires-clause-may c =
    let seat = c.load_cell-word.new.seat in
    let stays = c.load_cell-word.ensures.stays in
    let ks = knows_looked c.args.seat.now.view seat.view (as_side c.args.side.now) stays c.requires.asks.4.knows in
    let may : (aim : Option MNum) → ((m : MNum) → aim ≡ Some m → MaySetCell c.args.side.now.state (weak_op c.args.self.k c.args.self.v) m)
    → MayAppend c.args.order.now seat 0 c.args.self.caller (weak_op c.args.self.k c.args.self.v) aim =
    λ aim. weak_may c.args.order.now seat (as_side c.args.side.now) c.args.self.caller c.args.self.k c.args.self.v aim c.requires.asks.0 c.requires.asks.1
    (c.load_cell-word.ensures.seat.0 ∙ c.requires.asks.4.same)
    (ap (λ os. at false os 0) stays.owns ∙ c.requires.asks.4.owns) (ap (λ os. at false os (caller_line c.args.self.caller)) stays.owns ∙ c.requires.asks.4.pass)
    (settled_looked c.args.seat.now.view seat.view stays c.requires.settled) ks (omega (arith)) in
    record {
      takes = c.requires.asks.3;
      below = below_floor seat.view 0 c.args.side.now.entries ks.entries;
      room = room_left seat.view 0 c.args.side.now.entries ks.entries;
      bare = may None (λ m e. absurd (none_some m e));
      targets = λ m x. may (Some m) (λ y e. subst (MaySetCell c.args.side.now.state (weak_op c.args.self.k c.args.self.v)) (same_Some m y e) x);
    }

pub returns-clause-settled : goal.returns-clause-settled
returns-clause-settled c =
    let a = c.in_ok-reply.ensures.adds in
    let seat = c.load_cell-word.new.seat in
    let before = settled_looked c.args.seat.now.view seat.view c.load_cell-word.ensures.stays c.requires.settled in
    let s = plain_event_settled _ _ seat _ c.args.side.now.state (step_made c.args.self.caller c.args.self.index (weak_op c.args.self.k c.args.self.v) c.in_ok-reply.reply None) nothing _
    [] a.draws.adds.number (weak_is_plain c.args.self.caller c.args.self.k c.args.self.v c.in_ok-reply.reply c.requires.asks.0) a.draws.adds.drawn.3 a.goes.lawful before in
    search rules

pub returns-clause-drew : goal.returns-clause-drew
returns-clause-drew c =
    let a = c.in_ok-reply.ensures.adds in
    let seat = c.load_cell-word.new.seat in
    let d = drew_managed _ _ seat c.weak.new.draw.seat.now (as_side c.args.side.now) (as_side c.weak.new.self)
    (step_made c.args.self.caller c.args.self.index (weak_op c.args.self.k c.args.self.v) c.in_ok-reply.reply None) nothing a.draws.adds.number a.draws.adds.drawn.3 a.goes a.draws.adds.added
    (ap pins_of ((weak_is_plain c.args.self.caller c.args.self.k c.args.self.v c.in_ok-reply.reply c.requires.asks.0).pins seat)) _ a.draws.adds.drawn.2 in
    let before = seated c.args.seat.now seat c.load_cell-word.ensures.seat.0 c.load_cell-word.ensures.stays in
    let w = drew_between managed_rules 0 c.args.order.now c.args.seat.now seat c.weak.new.draw.seat.now c.weak.new.draw.seat.now
    (as_side c.args.side.now) (as_side c.weak.new.self) _ _ before d (record { order = refl; owns = refl; known = refl }) in
    search rules
