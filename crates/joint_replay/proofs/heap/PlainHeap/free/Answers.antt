-- The flags of the freed objects are taken down.
use Rattle.std.proofs.Common.{◌∙◌, ◌++◌, refl, ap, subst, sym}
use Rattle.std.specs.Prelude.{All}
use Rattle.joint_machine.specs.Heaps.{Heap, IsMade}
use Rattle.joint_replay.proofs.Flags.{IsFlagged-freed}
use Rattle.joint_replay.proofs.heap.PlainHeap.free.Goals as goal

pub invariant_of-self-2 : goal.invariant_of-self-2
invariant_of-self-2 c =
    let xs = c.args.xs.now in
    IsFlagged-freed _ _ c.self.inside.flags.items _ xs c.self.invariant (subst (λ (h : Heap). All (IsMade h) xs) (sym c.self.view_is) c.requires) c.lower.ensures.flags refl
    (c.lower.ensures.freed ∙ ap (λ l. l ++ xs) c.reserve.ensures.items) refl refl
