-- Nothing changes but the list, which goes on by the entry.
use Rattle.std.proofs.Common.{refl, sym, ap, length, None, arith}
use Rattle.std.proofs.lemmas.List.{length_push}
use Rattle.joint_machine.specs.declared.events.Made.{Made}
use Rattle.joint_machine.specs.Draws.{numbered}
use Rattle.joint_machine.specs.Sides.{peer_rules}
use Rattle.joint_machine.proofs.SideLists.{AreTaken-push}
use Rattle.peer_heap.proofs.Ends.{IsSide-pass, pass-goes, pass-going}
use Rattle.std.proofs.lemmas.Result.{IfOk-from_err}
use Rattle.peer_heap.proofs.side.PeerSide.refuse.Goals as goal

pub invariant_of-self-2 : goal.invariant_of-self-2
invariant_of-self-2 g c =
    let i = c.self.inside in
    let made : Made = record { caller = c.args.caller; index = c.args.index; op = c.args.op; reply = c.args.reply; cites = None } in
    let passes = rw (sym c.self.view_is) at c.requires.passes in
    let may = rw (sym c.self.view_is) at c.requires.may in
    let draws = rw c.in_ok-take_room.ensures.entries at c.enter.ensures.draws in
    let taken = AreTaken-push peer_rules i.threads i.entries.entries c.enter.new.entries.entries draws.adds.number made may.takes draws.adds.added c.self.invariant.1 in (
      IsSide-pass i.rows i.marking i.markings i.mirroring i.entries c.enter.new.entries draws.adds.number _ made c.self.invariant.0 draws.adds.added passes may.below draws.above
          (omega (arith, c.in_ok-take_room.ensures.room, c.kept-kept.ensures.kept, c.enter.ensures.spare))
          (omega (
            arith,
            c.in_ok-take_room.ensures.limit,
            c.enter.ensures.spare,
            ap length draws.adds.added,
            length_push i.entries.entries (numbered draws.adds.number made),
            ap length c.in_ok-take_room.ensures.entries,
          )),
      taken,
      pass-going i.rows i.marking i.markings i.mirroring i.entries c.enter.new.entries.entries draws.adds.number made c.self.invariant.0 draws.adds.added passes i.grey c.self.invariant.2,
      c.self.invariant.3,
    )

pub returns-clause-adds : goal.returns-clause-adds
returns-clause-adds g c =
    let i = c.self.inside in
    let made : Made = record { caller = c.args.caller; index = c.args.index; op = c.args.op; reply = c.args.reply; cites = None } in
    let passes = rw (sym c.self.view_is) at c.requires.passes in
    let draws = rw c.in_ok-take_room.ensures.entries at c.enter.ensures.draws in
    rw (sym c.self.view_is) (record {
      draws = draws;
      goes = pass-goes i.rows i.marking i.markings i.mirroring i.entries
          c.enter.new.entries.entries draws.adds.number made c.self.invariant.0 draws.adds.added passes;
      threads = refl;
    })

pub returns-in_err-take_room-clause-reply : goal.returns-in_err-take_room-clause-reply
returns-in_err-take_room-clause-reply g c = IfOk-from_err c.from_residual.result _ c.from_residual.ensures.0

pub returns-in_err-take_room-clause-adds : goal.returns-in_err-take_room-clause-adds
returns-in_err-take_room-clause-adds g c = IfOk-from_err c.from_residual.result _ c.from_residual.ensures.0
