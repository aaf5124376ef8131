-- The fields so far are done.
use Rattle.std.proofs.Common.{◌≡◌, ℕ, ◌⊎◌, Contains, ◌∷◌, false, length, take, Some}
use Rattle.reachability.specs.Marks.{HasMark}
use Rattle.row_marking.specs.Traces.{Greyed}
use Rattle.row_heap.proofs.places.visit_fields.Given as goal

abbrev pub invariant-loop-field : goal.invariant-loop-field
invariant-loop-field l = record {
  marks_len : length l.marks ≡ length l.fn.marks;
  links_len : length l.links ≡ length l.fn.links;
  fresh : (k : ℕ) → HasMark (false ∷ l.marks) k → HasMark (false ∷ l.fn.marks) k ⊎ Contains (take l.field-index l.fields) (Some k);
  raised : (k : ℕ) → HasMark (false ∷ l.fn.marks) k → HasMark (false ∷ l.marks) k;
  greyed : Greyed (λ y. Contains (take l.field-index l.fields) (Some y)) (false ∷ l.fn.marks) (0 ∷ l.fn.links) l.fn.grey (false ∷ l.marks) (0 ∷ l.links) l.grey;
}
