-- The slice's own call makes one entry, with what its marking reaches.
use Rattle.std.proofs.Common.{None, refl, rules}
use Rattle.joint_machine.specs.declared.lines.Act.TheVariants as act
use Rattle.joint_machine.specs.declared.events.Op.TheVariants as op
use Rattle.peer_heap.specs.Sides.{seen}
use Rattle.joint_history.specs.Locked.{made_by}
use Rattle.joint_history.proofs.Collecting.{event_drew}
use Rattle.seat_calls.proofs.Floors.{below_floor, room_left}
use Rattle.joint_history.proofs.peer_marks.slice_by.Goals as goal

pub thread_slice-requires-clause-may : goal.thread_slice-requires-clause-may
thread_slice-requires-clause-may c = record {
  takes = c.requires.takes;
  below = below_floor c.args.seat.now.view 1 c.args.side.now.entries c.requires.entries;
  room = room_left c.args.seat.now.view 1 c.args.side.now.entries c.requires.entries;
  bare = c.requires.may;
  targets = λ m x. absurd x;
}

pub returns-clause-drew : goal.returns-clause-drew
returns-clause-drew c =
    let a = c.in_ok-reply.ensures.adds.1 in
    let d = (event_drew _ (λ a b e m freed x. x) c.args.order.now _ c.thread_slice.new.draw (seen c.args.side.now) (seen c.thread_slice.new.self)
    (made_by c.args.caller c.args.index (op.Line (act.Slice c.args.n)) c.in_ok-reply.reply None) c.in_ok-reply.ensures.adds.0 refl refl a).drew in
    let name = a.draws.adds.drawn.0 in
    search rules

pub returns-clause-settled : goal.returns-clause-settled
returns-clause-settled c =
    let a = c.in_ok-reply.ensures.adds.1 in
    let s = (event_drew _ (λ a b e m freed x. x) c.args.order.now _ c.thread_slice.new.draw (seen c.args.side.now) (seen c.thread_slice.new.self)
    (made_by c.args.caller c.args.index (op.Line (act.Slice c.args.n)) c.in_ok-reply.reply None) c.in_ok-reply.ensures.adds.0 refl refl a).settled c.requires.settled in
    let name = a.draws.adds.drawn.0 in
    search rules

pub returns-clause-threads : goal.returns-clause-threads
returns-clause-threads c = c.in_ok-reply.ensures.adds.1.threads
