use Rattle.std.proofs.Common.{None, ◌≤◌, ◌+◌, length, refl, sym, subst, ◌∙◌}
use Rattle.std.proofs.lemmas.Option.{none-some, same_Some}
use Rattle.joint_machine.specs.declared.events.Op.TheVariants as op
use Rattle.joint_machine.specs.Sides.{peer_rules}
use Rattle.order_table.specs.Views.{role_line}
use Rattle.peer_heap.specs.Makings.{gone_since}
use Rattle.peer_heap.specs.Sides.{seen}
use Rattle.joint_history.specs.Collecting.{DrawsCollect}
use Rattle.seat_calls.specs.Passing.{MayAppend, left_in}
use Rattle.joint_history.proofs.Collecting.{collect_drew, threads_in_turn}
use Rattle.seat_calls.proofs.Floors.{below_floor, room_left}
use Rattle.joint_history.proofs.collects.collect_by.Goals as goal

pub collect-requires-clause-may_begin : goal.collect-requires-clause-may_begin
collect-requires-clause-may_begin c = record {
  takes = c.requires.takes;
  below = below_floor c.args.drawing.now.seat.now.view 1 c.args.side.now.entries c.requires.entries;
  room = subst (λ r. 4294967295 ≤ left_in c.args.drawing.now.seat.now.view (role_line r) + length c.args.side.now.entries)
      (sym c.requires.role) (room_left c.args.drawing.now.seat.now.view 1 c.args.side.now.entries c.requires.entries);
  bare = subst (λ r. MayAppend c.args.drawing.now.order.now c.args.drawing.now.seat.now (role_line r) c.args.caller op.Begin None) (sym c.requires.role) c.requires.may_begin;
  targets = λ m x. absurd x;
}

pub collect-requires-clause-may_sweep : goal.collect-requires-clause-may_sweep
collect-requires-clause-may_sweep c = record {
  takes = c.requires.takes;
  below = below_floor c.args.drawing.now.seat.now.view 1 c.args.side.now.entries c.requires.entries;
  room = subst (λ r. 4294967295 ≤ left_in c.args.drawing.now.seat.now.view (role_line r) + length c.args.side.now.entries)
      (sym c.requires.role) (room_left c.args.drawing.now.seat.now.view 1 c.args.side.now.entries c.requires.entries);
  bare = subst (λ r. MayAppend c.args.drawing.now.order.now c.args.drawing.now.seat.now (role_line r) c.args.caller op.Sweep None) (sym c.requires.role) c.requires.may_sweep;
  targets = λ m x. absurd x;
}

pub unreachable-requires : goal.unreachable-requires
unreachable-requires c =
    let w = collect_drew _ (λ a b e m freed x. x) c.args.drawing.now.order.now c.args.drawing.now c.collect.new.draw (seen c.args.side.now)
    (seen c.collect.new.self) c.args.caller c.args.index c.in_ok-reply.reply
    (gone_since c.args.side.now.state c.collect.new.self.state) refl c.requires.role c.requires.first c.in_ok-reply.ensures.adds in
    none-some w.first (sym (sym w.begins ∙ c.in_default.is))

pub returns-clause-drew : goal.returns-clause-drew
returns-clause-drew c =
    let w = collect_drew _ (λ a b e m freed x. x) c.args.drawing.now.order.now c.args.drawing.now c.collect.new.draw (seen c.args.side.now)
    (seen c.collect.new.self) c.args.caller c.args.index c.in_ok-reply.reply
    (gone_since c.args.side.now.state c.collect.new.self.state) refl c.requires.role c.requires.first c.in_ok-reply.ensures.adds in
    subst (λ n. DrawsCollect c.args.drawing.now.order.now c.args.drawing.now.seat.now c.collect.new.draw.seat.now (seen c.args.side.now) (seen c.collect.new.self) c.args.caller c.args.index
    (record { first = n; last = c.collect.new.draw.last; reply = c.in_ok-reply.reply })) (same_Some w.first c.in-Some.first (sym w.begins ∙ c.in-Some.is)) w.drew

pub returns-clause-threads : goal.returns-clause-threads
returns-clause-threads c = threads_in_turn peer_rules _ _ _ (seen c.args.side.now) (seen c.collect.new.self) _ c.in_ok-reply.ensures.adds

pub returns-clause-settled : goal.returns-clause-settled
returns-clause-settled c =
    let w = collect_drew _ (λ a b e m freed x. x) c.args.drawing.now.order.now c.args.drawing.now c.collect.new.draw (seen c.args.side.now)
    (seen c.collect.new.self) c.args.caller c.args.index c.in_ok-reply.reply
    (gone_since c.args.side.now.state c.collect.new.self.state) refl c.requires.role c.requires.first c.in_ok-reply.ensures.adds in
    w.settled c.requires.settled
