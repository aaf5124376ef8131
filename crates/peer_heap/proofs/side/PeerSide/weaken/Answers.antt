-- The handle is weak, and one restore more is owed.
use Rattle.std.proofs.Common.{◌≡◌, ◌≤◌, Option, Some, sym, ap, subst, ◌∙◌}
use Rattle.joint_machine.specs.Sides.{peer_rules}
use Rattle.joint_machine.proofs.SideLists.{AreTaken-push}
use Rattle.peer_heap.specs.Cycles.{weakens}
use Rattle.peer_heap.specs.declared.mirroring.OpenMirror.{OpenMirror}
use Rattle.peer_heap.specs.Sides.{AreGoing, IsSide, left_of}
use Rattle.peer_heap.proofs.Restoring.{IsSide-weakened, on_mirror, weaken-going}
use Rattle.peer_heap.proofs.Counted.{counted-same}
use Rattle.peer_heap.specs.Rows.{Rows}
use Rattle.peer_heap.proofs.side.PeerSide.weaken.Goals as goal

pub weaken-requires : goal.weaken-requires
weaken-requires g c = (rw (sym c.self.view_is) at c.requires.weakens).strong_now

pub invariant_of-self : goal.invariant_of-self
invariant_of-self g c =
    let i = c.self.inside in
    let x = c.in-Some.mirror in
    let may = rw (sym c.self.view_is) at c.requires.weakens in
    let below = (rw (sym c.self.view_is) at c.requires.may).below in
    let here : i.mirroring.mirror ≡ Some x = sym c.in-Some.ensures.mirror in
    let left : 1 ≤ x.left = subst (λ (o : Option OpenMirror). 1 ≤ left_of o) here (rw (sym c.self.view_is) at c.requires.left) in
    let draws = c.note.ensures.draws in
    let taken = AreTaken-push peer_rules i.threads i.entries.entries c.note.new.entries.entries draws.adds.number (weakens c.args.index c.args.h c.args.cites) tt draws.adds.added c.self.invariant.1 in (
      subst (λ z. IsSide c.weaken.new.self i.marking i.markings z c.note.new.entries)
          (sym (◌∙◌ {b = on_mirror i.mirroring c.weakened.result} c.set_mirror.ensures (ap (on_mirror i.mirroring) c.weakened.ensures)))
          (IsSide-weakened i.rows c.weaken.new.self i.marking i.markings i.mirroring x i.entries c.note.new.entries draws.adds.number _ c.args.index
          c.args.h c.args.cites c.self.invariant.0 draws.adds.added below draws.above c.weaken.ensures here left may c.note.ensures.spare),
      taken,
      subst (λ z. AreGoing c.weaken.new.self i.marking i.grey i.markings z c.note.new.entries.entries)
          (sym (◌∙◌ {b = on_mirror i.mirroring c.weakened.result} c.set_mirror.ensures (ap (on_mirror i.mirroring) c.weakened.ensures)))
          (weaken-going i.rows c.weaken.new.self i.marking i.markings i.mirroring x i.entries c.note.new.entries.entries draws.adds.number
          c.args.index c.args.h c.args.cites c.self.invariant.0 draws.adds.added c.weaken.ensures here i.grey c.self.invariant.2),
      counted-same i.marking i.rows.rows c.weaken.new.self.rows i.grey (ap (λ (z : Rows). z.rows.marks) c.weaken.ensures) (ap (λ (z : Rows). z.rows.links) c.weaken.ensures) c.self.invariant.3,
    )
