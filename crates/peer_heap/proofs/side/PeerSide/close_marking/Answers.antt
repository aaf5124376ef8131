-- The grey peers are made black, so what has no mark then is what the definition's sweep frees.
use Rattle.std.proofs.Common.{◌-◌, None, refl, sym, length, arith}
use Rattle.std.proofs.lemmas.List.{length-drop}
use Rattle.joint_machine.specs.declared.names.Span.{Span}
use Rattle.joint_machine.specs.Sides.{peer_rules}
use Rattle.joint_machine.proofs.SideLists.{AreTaken-push}
use Rattle.peer_heap.specs.Sides.{ends}
use Rattle.peer_heap.proofs.Ends.{AreGoing-black, AreGoing-swept, IsSide-black, IsSide-swept, black-ended, black-goes, ended-spare, ended-whole, freed-less, side-swept}
use Rattle.peer_heap.proofs.side.PeerSide.close_marking.Goals as goal

pub blacken-requires : goal.blacken-requires
blacken-requires g c = c.self.invariant.2.list

pub sweep-requires : goal.sweep-requires
sweep-requires g c =
    let i = c.self.inside in
    let mid = c.blacken.new.self in
    let dark = IsSide-black i.rows mid i.marking i.markings i.mirroring i.entries c.blacken.ensures.rest c.self.invariant.0 in
    let going = AreGoing-black i.rows mid i.marking i.grey c.blacken.new.grey i.markings c.blacken.result
    i.mirroring i.entries c.blacken.ensures.rest c.self.invariant.0 c.blacken.ensures.steps c.self.invariant.2 in
    let ended = black-ended i.rows mid i.marking i.entries.entries c.args.caller c.args.marking c.blacken.ensures.rest (rw (sym c.self.view_is) at c.requires.ended) in
    ended-whole mid i.marking c.blacken.new.grey i.markings i.mirroring i.entries c.args.caller c.args.marking dark going (c.blacken.ensures.end (omega (arith, c.blacken.ensures.few))) ended

pub overflow_sub-count : goal.overflow_sub-count
overflow_sub-count g c = omega (arith, c.freed-first.ensures, c.freed.ensures, freed-less c.blacken.new.self c.sweep.new.self c.sweep.ensures.rest)

pub enter-requires-clause-spare : goal.enter-requires-clause-spare
enter-requires-clause-spare g c =
    let i = c.self.inside in
    ended-spare i.rows i.marking i.markings i.mirroring i.entries c.args.caller c.args.marking c.self.invariant.0 (rw (sym c.self.view_is) at c.requires.ended)

pub invariant_of-self : goal.invariant_of-self
invariant_of-self g c =
    let i = c.self.inside in
    let mid = c.blacken.new.self in
    let dark = IsSide-black i.rows mid i.marking i.markings i.mirroring i.entries c.blacken.ensures.rest c.self.invariant.0 in
    let going = AreGoing-black i.rows mid i.marking i.grey c.blacken.new.grey i.markings c.blacken.result
    i.mirroring i.entries c.blacken.ensures.rest c.self.invariant.0 c.blacken.ensures.steps c.self.invariant.2 in
    let w = c.sweep.new.self in
    let ended = black-ended i.rows mid i.marking i.entries.entries c.args.caller c.args.marking c.blacken.ensures.rest (rw (sym c.self.view_is) at c.requires.ended) in
    let may = rw (sym c.self.view_is) at c.requires.may in
    let draws = c.enter.ensures.draws in
    let black = c.blacken.ensures.end (omega (arith, c.blacken.ensures.few)) in
    let span : Span = record { first = c.freed-first.result; count = c.freed.result - c.freed-first.result } in
    let taken = AreTaken-push peer_rules i.threads i.entries.entries c.enter.new.entries.entries draws.adds.number
    (ends c.args.caller c.args.index c.args.marking span) may.takes draws.adds.added c.self.invariant.1 in (
      IsSide-swept mid w i.marking i.markings i.mirroring i.entries c.enter.new.entries draws.adds.number _ c.args.caller c.args.index c.args.marking
          span c.blacken.new.grey dark going black c.sweep.ensures.rest c.sweep.ensures.white ended c.requires.caller c.freed-first.ensures
          (omega (arith, c.freed.ensures, c.freed-first.ensures, length-drop (length mid.rows.heap.freed) w.rows.heap.freed)) draws.adds.added may.below draws.above c.enter.ensures.spare,
      taken,
      AreGoing-swept w c.blacken.new.grey i.markings i.mirroring c.enter.new.entries.entries black,
      tt,
    )

pub returns-clause-swept : goal.returns-clause-swept
returns-clause-swept g c =
    let i = c.self.inside in
    let mid = c.blacken.new.self in
    let dark = IsSide-black i.rows mid i.marking i.markings i.mirroring i.entries c.blacken.ensures.rest c.self.invariant.0 in
    let going = AreGoing-black i.rows mid i.marking i.grey c.blacken.new.grey i.markings c.blacken.result
    i.mirroring i.entries c.blacken.ensures.rest c.self.invariant.0 c.blacken.ensures.steps c.self.invariant.2 in
    let w = c.sweep.new.self in
    let ended = black-ended i.rows mid i.marking i.entries.entries c.args.caller c.args.marking c.blacken.ensures.rest (rw (sym c.self.view_is) at c.requires.ended) in
    let black = c.blacken.ensures.end (omega (arith, c.blacken.ensures.few)) in
    let span : Span = record { first = c.freed-first.result; count = c.freed.result - c.freed-first.result } in
    let goes = side-swept mid w i.marking i.markings i.mirroring i.entries c.enter.new.entries.entries c.enter.ensures.draws.adds.number c.args.caller
    c.args.index c.args.marking span c.blacken.new.grey dark going black c.sweep.ensures.rest c.sweep.ensures.white ended c.requires.caller c.freed-first.ensures
    (omega (arith, c.freed.ensures, c.freed-first.ensures, length-drop (length mid.rows.heap.freed) w.rows.heap.freed)) c.enter.ensures.draws.adds.added in
    let all = black-goes i.rows mid w i.marking None i.markings i.markings i.mirroring i.mirroring i.entries.entries c.enter.new.entries.entries
    (ends c.args.caller c.args.index c.args.marking span) c.blacken.ensures.rest goes in
    rw (sym c.self.view_is) (record { draws = c.enter.ensures.draws; goes = all; threads = refl })
