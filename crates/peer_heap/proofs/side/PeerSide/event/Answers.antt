-- The rows did the event of the replay, so the list goes on by its entry, and the side stays one.
use Rattle.std.proofs.Common.{◌+◌, refl, sym, ap, subst, length, arith}
use Rattle.std.proofs.lemmas.List.{length_push}
use Rattle.joint_machine.specs.declared.events.Made.{Made}
use Rattle.joint_machine.specs.Draws.{numbered}
use Rattle.joint_machine.specs.Sides.{AreTaken, peer_rules}
use Rattle.joint_machine.proofs.SideLists.{AreTaken-push}
use Rattle.peer_heap.specs.Marks.{MarksAfter}
use Rattle.std.proofs.lemmas.Result.{IfOk-from_err}
use Rattle.peer_heap.proofs.Sides.{IsSide-roomy, IsSide-step, going-next, side-goes, targets-live}
use Rattle.peer_heap.proofs.Steps.{releases-tabled, room-more, room-two}
use Rattle.peer_heap.specs.Mirrors.{owes}
use Rattle.peer_heap.specs.Sides.{state_with, owed}
use Rattle.peer_heap.specs.Steps.{room_for}
use Rattle.peer_heap.proofs.Counted.{counted-next}
use Rattle.peer_heap.proofs.side.PeerSide.event.Goals as goal

pub event-requires-clause-tabled : goal.event-requires-clause-tabled
event-requires-clause-tabled g c =
    let i = c.self.inside in
    let allowed = rw (sym c.self.view_is) at c.requires.allowed in
    releases-tabled (state_with i.entries.entries i.rows i.marking i.markings i.mirroring) c.args.caller c.args.op.now c.args.cites allowed

pub event-requires-clause-live : goal.event-requires-clause-live
event-requires-clause-live g c =
    let i = c.self.inside in
    targets-live i.rows i.marking i.markings i.mirroring i.entries c.self.invariant.0

pub event-requires-clause-last : goal.event-requires-clause-last
event-requires-clause-last g c = λ no. omega (
  arith,
  c.in_ok-make_room.ensures.room,
  room-two c.args.op.now c.kept-kept.result no,
  c.in_ok-make_room.ensures.limit,
  ap length c.in_ok-make_room.ensures.entries,
  c.self.invariant.0.issued,
)

pub enter-requires-clause-spare : goal.enter-requires-clause-spare
enter-requires-clause-spare g c =
    let i = c.self.inside in
    let counted = ap (λ k. room_for c.args.op.now k) c.kept-kept.ensures.kept in
    let more = room-more c.args.op.now i.rows.tabled (owed i.marking) in
    let all = room-more c.args.op.now (i.rows.tabled + owed i.marking) (owes i.mirroring) in
    omega (arith, c.in_ok-make_room.ensures.room, more, all, counted, c.in_ok-reply.ensures.room)

pub invariant_of-self-2 : goal.invariant_of-self-2
invariant_of-self-2 g c =
    let i = c.self.inside in
    let made : Made = record { caller = c.args.caller; index = c.args.index; op = c.args.op.now; reply = c.in_ok-reply.reply; cites = c.args.cites } in
    let allowed = rw (sym c.self.view_is) at c.requires.allowed in
    let draws = rw c.in_ok-make_room.ensures.entries at c.enter.ensures.draws in
    let made-room = c.in_ok-make_room.ensures.room in
    let counted = ap (λ k. room_for c.args.op.now k) c.kept-kept.ensures.kept in
    let more = room-more c.args.op.now i.rows.tabled (owed i.marking) in
    let all = room-more c.args.op.now (i.rows.tabled + owed i.marking) (owes i.mirroring) in
    let may = rw (sym c.self.view_is) at c.requires.may in
    let marks = subst (λ b. MarksAfter b c.args.caller i.rows.rows i.grey c.args.op.now c.in_ok-reply.reply c.event.new.self.rows c.event.new.grey)
    c.is_some-is_open.ensures c.in_ok-reply.ensures.marks in
    let taken = AreTaken-push peer_rules i.threads i.entries.entries c.enter.new.entries.entries draws.adds.number made may.takes draws.adds.added c.self.invariant.1 in (
      IsSide-step i.rows c.event.new.self i.marking i.markings i.mirroring i.entries c.enter.new.entries draws.adds.number _ made
          draws.adds.added may.below draws.above c.requires.step allowed c.in_ok-reply.ensures.goes i.grey c.event.new.grey marks
          (omega (arith, made-room, more, all, counted, c.in_ok-reply.ensures.room, c.enter.ensures.spare))
          (omega (
            arith,
            c.in_ok-make_room.ensures.limit,
            c.enter.ensures.spare,
            ap length draws.adds.added,
            length_push i.entries.entries (numbered draws.adds.number made),
            ap length c.in_ok-make_room.ensures.entries,
          ))
          c.self.invariant.0,
      taken,
      going-next i.rows c.event.new.self i.marking i.grey c.event.new.grey i.markings i.mirroring i.entries c.enter.new.entries.entries
          draws.adds.number made c.self.invariant.0 draws.adds.added c.requires.step c.in_ok-reply.ensures.goes marks c.self.invariant.2,
      counted-next i.rows c.event.new.self i.marking i.grey c.event.new.grey i.markings i.mirroring i.entries
          made c.self.invariant.0 c.in_ok-reply.ensures.goes marks c.self.invariant.2 c.self.invariant.3,
    )

pub returns-clause-adds : goal.returns-clause-adds
returns-clause-adds g c =
    let i = c.self.inside in
    let made : Made = record { caller = c.args.caller; index = c.args.index; op = c.args.op.now; reply = c.in_ok-reply.reply; cites = c.args.cites } in
    let allowed = rw (sym c.self.view_is) at c.requires.allowed in
    let draws = rw c.in_ok-make_room.ensures.entries at c.enter.ensures.draws in
    let marks = subst (λ b. MarksAfter b c.args.caller i.rows.rows i.grey c.args.op.now c.in_ok-reply.reply c.event.new.self.rows c.event.new.grey)
    c.is_some-is_open.ensures c.in_ok-reply.ensures.marks in
    let goes = side-goes i.rows c.event.new.self i.marking i.markings i.mirroring i.entries c.enter.new.entries.entries draws.adds.number
    made c.self.invariant.0 draws.adds.added c.requires.step c.in_ok-reply.ensures.goes i.grey c.event.new.grey marks allowed in
    rw (sym c.self.view_is) (record { draws = draws; goes = goes; threads = refl })

pub invariant_of-self-in_err-reply : goal.invariant_of-self-in_err-reply
invariant_of-self-in_err-reply g c =
    let i = c.self.inside in
    let err = c.in_err-reply.ensures.err in
    let room = c.in_ok-make_room.ensures in (
      IsSide-roomy i.rows c.event.new.self i.marking i.markings i.mirroring i.mirroring i.entries c.make_room.new.entries i.rows.rows.room i.rows.rows.temps err.0 refl room.entries
          (omega (arith, c.self.invariant.0.room, room.kept)) room.limit c.self.invariant.0.refs_room (omega arith) c.self.invariant.0.temps_room refl c.self.invariant.0,
      subst (AreTaken peer_rules i.threads) (sym room.entries) c.self.invariant.1,
      rw (err.0, err.1, room.entries) c.self.invariant.2,
      rw (err.0, err.1) c.self.invariant.3,
    )

pub returns-in_err-make_room-clause-adds : goal.returns-in_err-make_room-clause-adds
returns-in_err-make_room-clause-adds g c = IfOk-from_err c.from_residual.result _ c.from_residual.ensures.0

pub returns-in_err-reply-clause-adds : goal.returns-in_err-reply-clause-adds
returns-in_err-reply-clause-adds g c = IfOk-from_err c.from_residual-in_err-reply.result _ c.from_residual-in_err-reply.ensures.0
