-- A begin leaves the cycle as it is, and of what is reserved it takes nothing but its own.
use Rattle.std.proofs.Common.{ap, ◌∙◌}
use Rattle.joint_machine.specs.Sides.{peer_rules}
use Rattle.joint_machine.specs.Told.{nothing}
use Rattle.peer_heap.specs.Sides.{Reserve, seen}
use Rattle.side_tests.proofs.Circles.{circle-same, circle-stays}
use Rattle.side_tests.proofs.Counting.{counted-once}
use Rattle.side_tests.proofs.Moves.{begun-left, begun-waiting, still-once}
use Rattle.side_tests.proofs.mirrors.Driven.begins.Goals as goal
use Rattle.side_tests.proofs.mirrors.Driven.begins.Goals.{in-Ok, in-Err-MarkOpen, in-Err-OutOfMemory}

pub invariant_of-self : goal.invariant_of-self
invariant_of-self c =
    let i = c.self.inside in
    elim c.match-mark_begin.branch [
      | in-Ok w ↦ circle-stays i.side c.mark_begin.new.self i.draw c.mark_begin.new.draw i.mirrored i.standing i.kept i.weak i.back
          (still-once i.draw c.mark_begin.new.draw (seen i.side) (seen c.mark_begin.new.self) _ nothing w.in-Ok.ensures.begun tt)
          (counted-once peer_rules (seen i.side) (seen c.mark_begin.new.self) i.draw c.mark_begin.new.draw _ nothing w.in-Ok.ensures.begun c.self.invariant.counted)
          (ap (λ (z : Reserve). z.waiting) w.in-Ok.ensures.reserve ∙ begun-waiting _ i.side.reserve)
          (ap (λ (z : Reserve). z.left) w.in-Ok.ensures.reserve ∙ begun-left _ i.side.reserve) c.self.invariant
      | in-Err-MarkOpen w ↦ circle-same i.side c.mark_begin.new.self i.draw c.mark_begin.new.draw i.mirrored i.standing i.kept i.weak i.back w.in-Err-MarkOpen.ensures.err c.self.invariant
      | in-Err-OutOfMemory w ↦ circle-same i.side c.mark_begin.new.self i.draw c.mark_begin.new.draw i.mirrored i.standing i.kept i.weak i.back w.in-Err-OutOfMemory.ensures.err c.self.invariant
    ]
