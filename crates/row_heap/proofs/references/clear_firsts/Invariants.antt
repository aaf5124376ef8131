-- The ends that the references so far lead from have none.
use Rattle.std.proofs.Common.{◌≡◌, length, map, take}
use Rattle.std.specs.Prelude.{vec_capacity}
use Rattle.row_heap.specs.declared.references.Reference.{Reference}
use Rattle.row_heap.specs.Ends.{FirstsCleared, end_of, first_in}
use Rattle.row_heap.proofs.references.clear_firsts.Given as goal

abbrev pub invariant-loop-packed : goal.invariant-loop-packed
invariant-loop-packed l = record {
  len : (length l.objects.items ≡ length l.fn.objects.items) × (length l.temporaries.items ≡ length l.fn.temporaries.items);
  room : vec_capacity l.objects ≡ vec_capacity l.fn.objects;
  cleared : FirstsCleared (map (λ (r : Reference). end_of r.from) (take l.packed-index l.list)) (first_in l.fn.objects.items l.fn.temporaries.items) (first_in l.objects.items l.temporaries.items);
}
