-- Room alone changes: for entries, for references and temporaries, or for all of these.
use Rattle.std.proofs.Common.{Some, max, refl, sym, subst, arith}
use Rattle.std.proofs.Math.Nat.{le-max_left, le-max_right}
use Rattle.joint_machine.specs.Sides.{AreTaken, peer_rules}
use Rattle.peer_heap.specs.Mirrors.{Mirrors}
use Rattle.peer_heap.specs.Sides.{IsSide}
use Rattle.std.proofs.lemmas.Result.{IfOk-from_err}
use Rattle.peer_heap.proofs.Sides.{IsSide-roomy, roomy-going}
use Rattle.peer_heap.proofs.Counted.{roomy-counted}
use Rattle.peer_heap.proofs.side.PeerSide.reserve_refs.Goals as goal

pub invariant_of-self-in_err-all : goal.invariant_of-self-in_err-all
invariant_of-self-in_err-all c =
    let i = c.self.inside in
    let side = c.self.invariant.0 in
    let room = c.in_ok-take_cycle.ensures in (
      IsSide-roomy i.rows i.rows i.marking i.markings i.mirroring i.mirroring i.entries c.take_cycle.new.entries i.rows.rows.room i.rows.rows.temps refl refl room.entries
          (omega (arith, side.room, room.kept)) room.limit side.refs_room (omega arith) side.temps_room refl side,
      subst (AreTaken peer_rules i.threads) (sym room.entries) c.self.invariant.1,
      roomy-going i.rows i.rows i.marking i.grey i.markings i.mirroring i.mirroring i.entries.entries
          c.take_cycle.new.entries.entries i.rows.rows.room i.rows.rows.temps refl room.entries c.self.invariant.2,
      c.self.invariant.3,
    )

pub invariant_of-self-in_err-reserve_refs : goal.invariant_of-self-in_err-reserve_refs
invariant_of-self-in_err-reserve_refs c =
    let i = c.self.inside in
    let side = c.self.invariant.0 in
    let room = c.in_ok-take_cycle.ensures in (
      IsSide-roomy i.rows c.reserve_refs.new.self i.marking i.markings i.mirroring i.mirroring i.entries
          c.take_cycle.new.entries i.rows.rows.room i.rows.rows.temps c.in_err-reserve_refs.ensures.err refl room.entries
          (omega (arith, side.room, room.kept)) room.limit side.refs_room (omega arith) side.temps_room refl side,
      subst (AreTaken peer_rules i.threads) (sym room.entries) c.self.invariant.1,
      roomy-going i.rows c.reserve_refs.new.self i.marking i.grey i.markings i.mirroring i.mirroring i.entries.entries
          c.take_cycle.new.entries.entries i.rows.rows.room i.rows.rows.temps c.in_err-reserve_refs.ensures.err room.entries c.self.invariant.2,
      roomy-counted i.rows c.reserve_refs.new.self i.marking i.grey i.rows.rows.room i.rows.rows.temps c.in_err-reserve_refs.ensures.err c.self.invariant.3,
    )

pub invariant_of-self-in_err-reserve : goal.invariant_of-self-in_err-reserve
invariant_of-self-in_err-reserve c =
    let i = c.self.inside in
    let side = c.self.invariant.0 in
    let more = le-max_left i.rows.rows.temps c.args.temps in
    let room = c.in_ok-take_cycle.ensures in (
      subst (λ z. IsSide c.reserve_refs.new.self i.marking i.markings z c.take_cycle.new.entries) (sym c.in_err-reserve.ensures.err)
          (IsSide-roomy i.rows c.reserve_refs.new.self i.marking i.markings i.mirroring i.mirroring i.entries c.take_cycle.new.entries c.in_ok-all.all
          (max i.rows.rows.temps c.args.temps) c.in_ok-reserve_refs.ensures.ok refl room.entries
          (omega (arith, side.room, room.kept)) room.limit c.in_ok-all.ensures.now more (omega (arith, side.temps_room, more)) refl side),
      subst (AreTaken peer_rules i.threads) (sym room.entries) c.self.invariant.1,
      roomy-going i.rows c.reserve_refs.new.self i.marking i.grey i.markings i.mirroring c.reserve.new.self i.entries.entries c.take_cycle.new.entries.entries c.in_ok-all.all
          (max i.rows.rows.temps c.args.temps) c.in_ok-reserve_refs.ensures.ok room.entries c.self.invariant.2,
      roomy-counted i.rows c.reserve_refs.new.self i.marking i.grey c.in_ok-all.all (max i.rows.rows.temps c.args.temps) c.in_ok-reserve_refs.ensures.ok c.self.invariant.3,
    )

pub invariant_of-self-2 : goal.invariant_of-self-2
invariant_of-self-2 c =
    let i = c.self.inside in
    let room = c.in_ok-take_cycle.ensures in
    let more : Mirrors = record i.mirroring { room = c.args.refs; temps = c.args.temps; next = Some c.args.handles } in (
      subst (λ z. IsSide c.reserve_refs.new.self i.marking i.markings z c.take_cycle.new.entries) (sym c.in_ok-reserve.ensures.ok)
          (IsSide-roomy i.rows c.reserve_refs.new.self i.marking i.markings i.mirroring more i.entries c.take_cycle.new.entries c.in_ok-all.all
          (max i.rows.rows.temps c.args.temps) c.in_ok-reserve_refs.ensures.ok refl room.entries
          (omega (arith, room.room, c.kept-kept.ensures.kept)) room.limit c.in_ok-all.ensures.more
          (le-max_left i.rows.rows.temps c.args.temps) (le-max_right i.rows.rows.temps c.args.temps) refl c.self.invariant.0),
      subst (AreTaken peer_rules i.threads) (sym room.entries) c.self.invariant.1,
      roomy-going i.rows c.reserve_refs.new.self i.marking i.grey i.markings i.mirroring c.reserve.new.self i.entries.entries c.take_cycle.new.entries.entries c.in_ok-all.all
          (max i.rows.rows.temps c.args.temps) c.in_ok-reserve_refs.ensures.ok room.entries c.self.invariant.2,
      roomy-counted i.rows c.reserve_refs.new.self i.marking i.grey c.in_ok-all.all (max i.rows.rows.temps c.args.temps) c.in_ok-reserve_refs.ensures.ok c.self.invariant.3,
    )

pub returns-in_err-take_cycle-clause-ok : goal.returns-in_err-take_cycle-clause-ok
returns-in_err-take_cycle-clause-ok c = IfOk-from_err c.from_residual.result _ c.from_residual.ensures.0

pub returns-in_err-all-clause-ok : goal.returns-in_err-all-clause-ok
returns-in_err-all-clause-ok c = IfOk-from_err c.from_residual-in_err-all.result _ c.from_residual-in_err-all.ensures.0

pub returns-in_err-reserve_refs-clause-ok : goal.returns-in_err-reserve_refs-clause-ok
returns-in_err-reserve_refs-clause-ok c = IfOk-from_err c.from_residual-in_err-reserve_refs.result _ c.from_residual-in_err-reserve_refs.ensures.0

pub returns-in_err-reserve-clause-ok : goal.returns-in_err-reserve-clause-ok
returns-in_err-reserve-clause-ok c = IfOk-from_err c.from_residual-in_err-reserve.result _ c.from_residual-in_err-reserve.ensures.0
