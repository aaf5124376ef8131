-- What a snapshot finds.
use Rattle.std.specs.Prelude.{◌≡◌, ℕ, ◌↔◌, ◌⊎◌, false, List, filter, Contains, Option, Some}
use Rattle.joint_machine.specs.Heaps.{Heap, HasField, InSlot}
use Rattle.joint_machine.specs.Walks.{Reached}
use Rattle.reachability.specs.Marks.{HasMark, IsClosed, marked, unmarked_of}
use Rattle.row_heap.specs.Marks.{AreWhite, EdgeOf}
use Rattle.row_heap.specs.Rows.{HeapRows}
use Rattle.managed_heap.specs.Resolving.{has_handle}

-- of the live rows that have no mark: those that hold a handle are the candidates; those that these reach, and that
-- have a mark afterwards, stay; and the others go
pub record PartsUnmarked (v w : HeapRows) (held : List (Option ℕ)) (freed candidates dead : List ℕ) : Type 0 where
  pub white : List ℕ
  pub are_white : AreWhite v white
  pub picked : candidates ≡ filter (has_handle held) white
  pub marks : (k : ℕ) → HasMark w.marks k ↔ (HasMark v.marks k ⊎ Reached (Contains candidates) (EdgeOf v) k)
  pub shut : IsClosed (EdgeOf v) w.marks
  pub left : dead ≡ filter (marked w.marks) white
  pub goes : freed ≡ unmarked_of w.marks white

-- some marking of these objects marks what slots and pins reach, and what it leaves out is parted so
pub record Prepares (h : Heap) (pins held : List (Option ℕ))
    (w : HeapRows) (freed candidates dead : List ℕ) : Type 0 where
  pub marked : HeapRows
  pub same : marked.heap ≡ h
  pub plain : marked.follows ≡ false
  pub slots : (x : ℕ) → HasMark marked.marks x ↔ Reached (λ z. InSlot h z ⊎ Contains pins (Some z)) (HasField h) x
  pub finds : PartsUnmarked marked w held freed candidates dead
