-- The rows keep their marks, so the next marking is the definition's.
use Rattle.std.proofs.Common.{◌+◌, sym, ap, length, refl, arith}
use Rattle.std.proofs.lemmas.List.{length_push}
use Rattle.joint_machine.specs.declared.names.Marking.{Marking as Number}
use Rattle.joint_machine.specs.Draws.{numbered}
use Rattle.joint_machine.specs.Sides.{peer_rules}
use Rattle.joint_machine.proofs.SideLists.{AreTaken-push}
use Rattle.peer_heap.specs.declared.side.OpenMarking.{OpenMarking}
use Rattle.peer_heap.specs.Sides.{begins, state_with}
use Rattle.joint_machine.specs.Told.{nothing}
use Rattle.peer_heap.specs.Mirrors.{owes}
use Rattle.peer_heap.proofs.Ends.{ends-live, begin-still, begun-goes, own-goes, AreGoing-begun, IsSide-begun}
use Rattle.std.proofs.lemmas.Result.{IfOk-from_err}
use Rattle.peer_heap.proofs.Whole.{strong-live}
use Rattle.peer_heap.proofs.Counted.{counted-begun}
use Rattle.peer_heap.specs.Marking.{IsRoot}
use Rattle.joint_machine.specs.PeerReplay.{strong_peers}
use Rattle.peer_heap.proofs.side.PeerSide.open_marking.Goals as goal

pub mark-self-inside-requires-clause-strong_ones : goal.mark-self-inside-requires-clause-strong_ones
mark-self-inside-requires-clause-strong_ones g c = (let i = c.self.inside in strong-live (state_with i.entries.entries i.rows i.marking i.markings i.mirroring) c.self.invariant.0.kept)

pub mark-self-inside-requires-clause-ends : goal.mark-self-inside-requires-clause-ends
mark-self-inside-requires-clause-ends g c = (let i = c.self.inside in ends-live i.rows i.marking i.markings i.mirroring i.entries c.self.invariant.0)

pub invariant_of-self-2 : goal.invariant_of-self-2
invariant_of-self-2 g c =
    let i = c.self.inside in
    let number : Number = record { 0 = i.markings + 1 } in
    let closed = rw (sym c.self.view_is) at c.requires.closed in
    let may = rw (sym c.self.view_is) at c.requires.may in
    let draws = rw c.in_ok-room_to_mark.ensures.entries at c.enter.ensures.draws in
    let taken = AreTaken-push peer_rules i.threads i.entries.entries c.enter.new.entries.entries draws.adds.number
    (begins c.args.caller c.args.index number) may.takes draws.adds.added c.self.invariant.1 in (
      rw c.in_ok-room_to_mark.ensures.mirroring
          (IsSide-begun i.rows c.mark-self-inside.new.self i.marking _ i.markings i.mirroring c.args.own i.entries c.enter.new.entries draws.adds.number _ c.args.caller c.args.index number
          c.self.invariant.0 c.mark-self-inside.ensures.rest closed refl refl c.len-from.ensures c.of-begin.ensures refl refl c.requires.caller draws.adds.added may.below draws.above
          (omega (arith, c.in_ok-room_to_mark.ensures.room, ap owes c.in_ok-room_to_mark.ensures.mirroring, c.kept-kept.ensures.kept, c.enter.ensures.spare))
          (omega (
            arith,
            c.in_ok-room_to_mark.ensures.limit,
            c.enter.ensures.spare,
            ap length draws.adds.added,
            length_push i.entries.entries (numbered draws.adds.number (begins c.args.caller c.args.index number)),
            ap length c.in_ok-room_to_mark.ensures.entries,
          ))),
      taken,
      rw c.in_ok-room_to_mark.ensures.mirroring
          (AreGoing-begun i.rows c.mark-self-inside.new.self i.marking (record { number = number; by = c.args.caller; from = c.len-from.result; begin = c.of-begin.result; blackened = 0 })
          c.mark-self-inside.result i.markings i.mirroring c.args.own i.entries c.enter.new.entries.entries draws.adds.number c.args.caller c.args.index number
          c.self.invariant.0 c.mark-self-inside.ensures.rest c.mark-self-inside.ensures.grey refl refl c.len-from.ensures c.of-begin.ensures refl draws.adds.added),
      counted-begun (record { number = number; by = c.args.caller; from = c.len-from.result; begin = c.of-begin.result; blackened = 0 })
          (IsRoot i.rows.rows.heap (strong_peers i.rows.issued i.rows.table)) c.mark-self-inside.new.self.rows c.mark-self-inside.result c.mark-self-inside.ensures.grey refl,
    )

pub returns-clause-begun : goal.returns-clause-begun
returns-clause-begun g c =
    let i = c.self.inside in
    let number : Number = record { 0 = i.markings + 1 } in
    let closed = rw (sym c.self.view_is) at c.requires.closed in
    let draws = rw c.in_ok-room_to_mark.ensures.entries at c.enter.ensures.draws in
    let still = begin-still i.rows i.marking i.markings i.mirroring i.entries c.enter.new.entries.entries draws.adds.number
    (begins c.args.caller c.args.index number) c.self.invariant.0 draws.adds.added tt in
    let opens : OpenMarking = record { number = number; by = c.args.caller; from = c.len-from.result; begin = c.of-begin.result; blackened = 0 } in
    let goes = begun-goes i.rows c.mark-self-inside.new.self opens i.markings i.mirroring i.entries.entries c.enter.new.entries.entries c.args.caller
    c.mark-self-inside.ensures.rest refl refl c.len-from.ensures c.of-begin.ensures refl still i.marking c.args.index number closed refl c.requires.caller in
    rw (sym c.self.view_is, c.in_ok-room_to_mark.ensures.mirroring)
    (record {
      draws = draws;
      goes = own-goes i.rows c.mark-self-inside.new.self i.marking opens i.markings
          (i.markings + 1) i.mirroring c.args.own i.entries.entries c.enter.new.entries.entries (begins c.args.caller c.args.index number) nothing goes;
      threads = refl;
    })

pub returns-in_err-room_to_mark-clause-begun : goal.returns-in_err-room_to_mark-clause-begun
returns-in_err-room_to_mark-clause-begun g c = IfOk-from_err c.from_residual.result _ c.from_residual.ensures.0

pub returns-in_err-room_to_mark-clause-reserve : goal.returns-in_err-room_to_mark-clause-reserve
returns-in_err-room_to_mark-clause-reserve g c = IfOk-from_err c.from_residual.result _ c.from_residual.ensures.0
