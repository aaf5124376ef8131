-- No reference stands, and nothing more is owed.
use Rattle.std.proofs.Common.{◌≡◌, true, sym, subst}
use Rattle.joint_machine.specs.Sides.{peer_rules}
use Rattle.joint_machine.proofs.SideLists.{AreTaken-push}
use Rattle.peer_heap.specs.Cycles.{clears}
use Rattle.peer_heap.specs.Sides.{AreGoing, IsSide, state_with}
use Rattle.row_heap.specs.Marks.{IsReferred}
use Rattle.row_marking.specs.Traces.{Greyed}
use Rattle.peer_heap.proofs.Ends.{ends-live}
use Rattle.peer_heap.proofs.Ending.{IsSide-cleared, clear-going, some-mirror, target-kept}
use Rattle.peer_heap.proofs.Counted.{counted-shaded}
use Rattle.peer_heap.proofs.side.PeerSide.clear_refs.Goals as goal

pub clear_refs-requires : goal.clear_refs-requires
clear_refs-requires g c = (let i = c.self.inside in ends-live i.rows i.marking i.markings i.mirroring i.entries c.self.invariant.0)

pub invariant_of-self : goal.invariant_of-self
invariant_of-self g c =
    let i = c.self.inside in
    let may = rw (sym c.self.view_is) at c.requires.clears in
    let targets = rw (sym c.self.view_is) at c.requires.targets in
    let below = (rw (sym c.self.view_is) at c.requires.may).below in
    let x = some-mirror i.entries.entries i.mirroring.mirror may.mirror may.stands in
    let draws = c.note.ensures.draws in
    let shaded = subst (λ b. Greyed (λ k. (b ≡ true) × IsReferred i.rows.rows k) i.rows.rows.marks i.rows.rows.links i.grey
    c.clear_refs.new.self.rows.marks c.clear_refs.new.self.rows.links c.clear_refs.new.grey) c.is_some-is_open.ensures c.clear_refs.ensures.shaded in
    let taken = AreTaken-push peer_rules i.threads i.entries.entries c.note.new.entries.entries draws.adds.number (clears c.args.index c.args.cycle) tt draws.adds.added c.self.invariant.1 in (
      subst (λ z. IsSide c.clear_refs.new.self i.marking i.markings z c.note.new.entries) (sym c.set_mirror.ensures)
          (IsSide-cleared i.rows c.clear_refs.new.self i.marking i.markings i.mirroring x.0 i.entries c.note.new.entries draws.adds.number _ c.args.index
          c.args.cycle c.self.invariant.0 draws.adds.added below draws.above c.clear_refs.ensures.rest x.1 may targets c.note.ensures.spare),
      taken,
      subst (λ z. AreGoing c.clear_refs.new.self i.marking c.clear_refs.new.grey i.markings z c.note.new.entries.entries) (sym c.set_mirror.ensures)
          (clear-going i.rows c.clear_refs.new.self i.marking i.markings i.mirroring x.0 i.entries c.note.new.entries.entries draws.adds.number c.args.index
          c.args.cycle c.self.invariant.0 draws.adds.added c.clear_refs.ensures.rest x.1 i.grey c.clear_refs.new.grey shaded targets c.self.invariant.2),
      counted-shaded i.marking (IsReferred i.rows.rows) i.rows.rows i.grey c.clear_refs.new.self.rows c.clear_refs.new.grey shaded c.self.invariant.2.list c.self.invariant.3,
    )

pub returns-clause-kept : goal.returns-clause-kept
returns-clause-kept g c =
    let i = c.self.inside in
    let s = state_with i.entries.entries i.rows i.marking i.markings i.mirroring in
    rw (sym c.self.view_is) (λ m p q stands refers strong. target-kept s m p q c.self.invariant.0.kept refers strong)
