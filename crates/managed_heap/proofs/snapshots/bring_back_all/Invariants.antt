-- The rows so far are brought back.
use Rattle.std.proofs.Common.{◌≡◌, ℕ, ◌↔◌, ◌⊎◌, Contains, take}
use Rattle.joint_machine.specs.Walks.{Reached}
use Rattle.reachability.specs.Marks.{IsClosed, HasMark}
use Rattle.row_heap.specs.Marks.{EdgeOf}
use Rattle.managed_heap.proofs.snapshots.bring_back_all.Given as goal

abbrev pub invariant-loop-m : goal.invariant-loop-m
invariant-loop-m l = record {
  marks : (k : ℕ) → HasMark l.heap.marks k ↔ (HasMark l.fn.heap.marks k ⊎ Reached (Contains (take l.m-index l.rows)) (EdgeOf l.fn.heap) k);
  shut : IsClosed (EdgeOf l.fn.heap) l.heap.marks;
  rest : l.heap ≡ record l.fn.heap { marks = l.heap.marks; links = l.heap.links };
}
