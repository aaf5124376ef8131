-- The list goes on by the entry of a slice, which may come next with what is told of the closure.
use Rattle.std.proofs.Common.{refl, sym, ap, length, arith}
use Rattle.std.proofs.lemmas.List.{length_push}
use Rattle.std.proofs.lemmas.Result.{IfOk-from_err}
use Rattle.joint_machine.specs.Draws.{numbered}
use Rattle.joint_machine.specs.Sides.{peer_rules}
use Rattle.joint_machine.proofs.SideLists.{AreTaken-push}
use Rattle.peer_heap.proofs.Slicing.{IsSide-sliced, sliced-to, slices}
use Rattle.peer_heap.proofs.side.PeerSide.thread_slice.Goals as goal

pub slice_open-reply-requires : goal.slice_open-reply-requires
slice_open-reply-requires g c = c.self.invariant.2.list

pub invariant_of-self-2 : goal.invariant_of-self-2
invariant_of-self-2 g c =
    let i = c.self.inside in
    let s = c.slice_open-reply in
    let may = rw (sym c.self.view_is) at c.requires.may in
    let draws = rw c.in_ok-take_room.ensures.entries at c.enter.ensures.draws in
    let made = slices c.args.caller c.args.index c.args.n s.result in
    let to = sliced-to i.rows s.new.rows i.marking s.new.marking i.grey s.new.grey i.markings i.mirroring i.entries c.enter.new.entries.entries draws.adds.number
    c.args.caller c.args.index c.args.n s.result draws.adds.added c.requires.caller c.requires.count s.ensures c.self.invariant.0 c.self.invariant.2 c.self.invariant.3 in (
      IsSide-sliced i.rows s.new.rows i.marking s.new.marking s.new.grey i.markings i.mirroring i.entries c.enter.new.entries
          draws.adds.number _ c.args.caller c.args.index c.args.n s.result to draws.adds.added may.below draws.above
          (omega (arith, c.in_ok-take_room.ensures.room, c.kept-kept.ensures.kept, c.enter.ensures.spare))
          (omega (
            arith,
            c.in_ok-take_room.ensures.limit,
            c.enter.ensures.spare,
            ap length draws.adds.added,
            length_push i.entries.entries (numbered draws.adds.number made),
            ap length c.in_ok-take_room.ensures.entries,
          ))
          c.self.invariant.0,
      AreTaken-push peer_rules i.threads i.entries.entries c.enter.new.entries.entries draws.adds.number made may.takes draws.adds.added c.self.invariant.1,
      to.going,
      to.counted,
    )

pub returns-clause-adds : goal.returns-clause-adds
returns-clause-adds g c =
    let i = c.self.inside in
    let s = c.slice_open-reply in
    let draws = rw c.in_ok-take_room.ensures.entries at c.enter.ensures.draws in
    let to = sliced-to i.rows s.new.rows i.marking s.new.marking i.grey s.new.grey i.markings i.mirroring i.entries c.enter.new.entries.entries draws.adds.number
    c.args.caller c.args.index c.args.n s.result draws.adds.added c.requires.caller c.requires.count s.ensures c.self.invariant.0 c.self.invariant.2 c.self.invariant.3 in
    rw (sym c.self.view_is) (to.told, record { draws = draws; goes = to.goes; threads = refl })

pub returns-in_err-take_room-clause-adds : goal.returns-in_err-take_room-clause-adds
returns-in_err-take_room-clause-adds g c = IfOk-from_err c.from_residual.result _ c.from_residual.ensures.0
