-- The references come to stand, and the replay's mirror is what the parts show.
use Rattle.std.proofs.Common.{◌≡◌, ℕ, List, length, map, refl, sym, ap, subst, ◌∙◌, arith}
use Rattle.std.specs.Prelude.{All}
use Rattle.std.proofs.lemmas.List.{length-map}
use Rattle.joint_machine.specs.Components as exact
use Rattle.row_heap.specs.declared.references.End.{End}
use Rattle.row_heap.specs.Ends.{ends_of}
use Rattle.row_heap.specs.Rows.{MayReferBoth}
use Rattle.joint_machine.specs.Sides.{GoesOn, peer_rules}
use Rattle.joint_machine.specs.Told.{references_of}
use Rattle.joint_machine.proofs.SideLists.{AreTaken-push}
use Rattle.peer_heap.specs.Cycles.{mirrors}
use Rattle.peer_heap.specs.Mirroring.{with_stood}
use Rattle.peer_heap.specs.Mirrors.{Mirrors}
use Rattle.peer_heap.specs.Sides.{AreGoing, IsSide, state_with}
use Rattle.peer_heap.proofs.Cycles.{IsSide-stood, stood-goes, stood-marking, stood_mirrors, waiting-refer}
use Rattle.peer_heap.proofs.Counted.{counted-same}
use Rattle.peer_heap.specs.Rows.{Rows}
use Rattle.peer_heap.proofs.side.PeerSide.stand.Goals as goal

counted : (refs : List (End × End)) (waiting : List (exact.End × exact.End)) → map ends_of refs ≡ waiting → length refs ≡ length waiting
counted refs waiting e = sym (length-map refs ends_of) ∙ ap length e

pub returns-clause-number : goal.returns-clause-number
returns-clause-number g c = rw (sym c.self.view_is) (counted c.waiting-waiting.result.now c.self.inside.mirroring.waiting c.waiting-waiting.ensures.waiting)

pub stand-requires-clause-ends : goal.stand-requires-clause-ends
stand-requires-clause-ends g c =
    let i = c.self.inside in
    let ends = rw (sym c.self.view_is) at c.requires.strong_ends in
    subst (All (MayReferBoth i.rows.rows)) (sym c.waiting-waiting.ensures.waiting) (waiting-refer i.rows i.marking i.markings i.mirroring i.entries c.self.invariant.0 ends)

pub stand-requires-clause-room : goal.stand-requires-clause-room
stand-requires-clause-room g c = omega (arith, c.self.invariant.0.refs_room, ap length c.waiting-waiting.ensures.waiting, length-map c.waiting-waiting.result.now ends_of)

pub invariant_of-self : goal.invariant_of-self
invariant_of-self g c =
    let i = c.self.inside in
    let waits = c.waiting-waiting.ensures.waiting in
    let closed = rw (sym c.self.view_is) at c.requires.closed in
    let once = rw (sym c.self.view_is) at c.requires.once in
    let ends = rw (sym c.self.view_is) at c.requires.strong_ends in
    let below = (rw (sym c.self.view_is) at c.requires.may).below in
    let count = counted c.waiting-waiting.result.now i.mirroring.waiting waits in
    let draws = rw count at c.note.ensures.draws in
    let put = c.stand.ensures ∙ ap (with_stood i.rows) waits in
    let stood : ℕ → Mirrors = λ from. stood_mirrors i.mirroring c.args.cycle c.args.cites from c.in-Some.handles in
    let taken = AreTaken-push peer_rules i.threads i.entries.entries c.note.new.entries.entries draws.adds.number
    (mirrors c.args.index c.args.cycle (length i.mirroring.waiting) c.args.cites) tt draws.adds.added c.self.invariant.1 in (
      subst (λ z. IsSide c.stand.new.self i.marking i.markings z c.note.new.entries) (sym (c.stand-2.ensures ∙ ap stood c.len-from.ensures))
          (IsSide-stood i.rows c.stand.new.self i.marking i.markings i.mirroring i.entries c.note.new.entries draws.adds.number _ c.args.index
          c.args.cycle c.args.cites c.in-Some.handles c.self.invariant.0 draws.adds.added below draws.above put closed (sym c.in-Some.ensures) once ends
          (omega (arith, c.waiting-waiting.ensures.most, count)) c.note.ensures.spare),
      taken,
      subst (λ z. AreGoing c.stand.new.self i.marking i.grey i.markings z c.note.new.entries.entries) (sym (c.stand-2.ensures ∙ ap stood c.len-from.ensures))
          (stood-marking i.rows c.stand.new.self i.marking i.markings i.mirroring i.entries c.note.new.entries.entries draws.adds.number
          c.args.index c.args.cycle c.args.cites c.in-Some.handles c.self.invariant.0 draws.adds.added put closed i.grey c.self.invariant.2),
      counted-same i.marking i.rows.rows c.stand.new.self.rows i.grey (ap (λ (z : Rows). z.rows.marks) put) (ap (λ (z : Rows). z.rows.links) put) c.self.invariant.3,
    )

pub returns-clause-adds : goal.returns-clause-adds
returns-clause-adds g c =
    let i = c.self.inside in
    let w = c.stand.new.self in
    let waits = c.waiting-waiting.ensures.waiting in
    let closed = rw (sym c.self.view_is) at c.requires.closed in
    let once = rw (sym c.self.view_is) at c.requires.once in
    let count = counted c.waiting-waiting.result.now i.mirroring.waiting waits in
    let draws = rw count at c.note.ensures.draws in
    let put = c.stand.ensures ∙ ap (with_stood i.rows) waits in
    let stood : ℕ → Mirrors = λ from. stood_mirrors i.mirroring c.args.cycle c.args.cites from c.in-Some.handles in
    let goes = stood-goes i.rows w i.marking i.markings i.mirroring i.entries c.note.new.entries.entries draws.adds.number
    c.args.index c.args.cycle c.args.cites c.in-Some.handles c.self.invariant.0 draws.adds.added put closed once in
    let moved = subst (λ z. GoesOn peer_rules (state_with i.entries.entries i.rows i.marking i.markings i.mirroring)
    (mirrors c.args.index c.args.cycle (length i.mirroring.waiting) c.args.cites) (references_of i.mirroring.waiting) (state_with c.note.new.entries.entries w i.marking i.markings z))
    (sym (c.stand-2.ensures ∙ ap stood c.len-from.ensures)) goes in
    rw (sym c.self.view_is, count) (record { draws = draws; goes = moved; threads = refl })
