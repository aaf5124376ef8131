-- The candidates so far are brought back, where they were answered alive.
use Rattle.std.proofs.Common.{◌≡◌, ℕ, ◌↔◌, ◌⊎◌}
use Rattle.joint_machine.specs.Walks.{Reached}
use Rattle.reachability.specs.Marks.{IsClosed, HasMark}
use Rattle.row_heap.specs.Marks.{EdgeOf}
use Rattle.managed_heap.specs.Resolving.{IsAliveBelow}
use Rattle.managed_heap.proofs.resolving.bring_back_kept.Given as goal

abbrev pub invariant-loop-i : goal.invariant-loop-i
invariant-loop-i l = record {
  marks : (k : ℕ) → HasMark l.heap.marks k ↔ (HasMark l.fn.heap.marks k ⊎ Reached (IsAliveBelow l.i l.candidates l.alive.values) (EdgeOf l.fn.heap) k);
  shut : IsClosed (EdgeOf l.fn.heap) l.heap.marks;
  rest : l.heap ≡ record l.fn.heap { marks = l.heap.marks; links = l.heap.links };
}
