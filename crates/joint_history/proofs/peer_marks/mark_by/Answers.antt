-- A step makes a begin or a sweep with one entry.
use Rattle.std.proofs.Common.{refl, rules}
use Rattle.peer_heap.specs.Makings.{gone_since}
use Rattle.peer_heap.specs.Sides.{seen}
use Rattle.joint_history.proofs.Collecting.{mark_drew}
use Rattle.joint_history.proofs.PeerCalls.{mark_draws, mark_may, mark_side}
use Rattle.seat_calls.proofs.Floors.{below_floor, room_left}
use Rattle.joint_history.proofs.peer_marks.mark_by.Goals as goal

pub mark_step-requires-clause-step : goal.mark_step-requires-clause-step
mark_step-requires-clause-step c = mark_side c.args.caller c.args.op.now c.requires.mark c.requires.thread

pub mark_step-requires-clause-allowed : goal.mark_step-requires-clause-allowed
mark_step-requires-clause-allowed c = mark_may c.args.side.now.state c.args.caller c.args.op.now c.requires.mark c.requires.thread

pub mark_step-requires-clause-may : goal.mark_step-requires-clause-may
mark_step-requires-clause-may c = mark_draws _ _ (seen c.args.side.now) c.args.caller c.args.op.now c.requires.mark record {
  takes = c.requires.takes;
  below = below_floor c.args.seat.now.view 1 c.args.side.now.entries c.requires.entries;
  room = room_left c.args.seat.now.view 1 c.args.side.now.entries c.requires.entries;
  bare = c.requires.may;
  targets = λ m x. absurd x;
}

pub returns-clause-drew : goal.returns-clause-drew
returns-clause-drew c =
    let d = (mark_drew _ (λ a b e m freed x. x) c.args.order.now _ c.mark_step.new.draw (seen c.args.side.now)
    (seen c.mark_step.new.self) c.args.caller c.args.index c.args.op.now c.in_ok-reply.reply
    (gone_since c.args.side.now.state c.mark_step.new.self.state) c.requires.mark refl refl c.in_ok-reply.ensures.adds).drew in
    search rules

pub returns-clause-settled : goal.returns-clause-settled
returns-clause-settled c =
    let s = (mark_drew _ (λ a b e m freed x. x) c.args.order.now _ c.mark_step.new.draw
    (seen c.args.side.now) (seen c.mark_step.new.self) c.args.caller c.args.index c.args.op.now c.in_ok-reply.reply
    (gone_since c.args.side.now.state c.mark_step.new.self.state) c.requires.mark refl refl c.in_ok-reply.ensures.adds).settled c.requires.settled in
    search rules

pub returns-clause-threads : goal.returns-clause-threads
returns-clause-threads c = (mark_drew _ (λ a b e m freed x. x) c.args.order.now _ c.mark_step.new.draw (seen c.args.side.now)
    (seen c.mark_step.new.self) c.args.caller c.args.index c.args.op.now c.in_ok-reply.reply
    (gone_since c.args.side.now.state c.mark_step.new.self.state) c.requires.mark refl refl c.in_ok-reply.ensures.adds).threads
