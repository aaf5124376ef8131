-- What a snapshot finds among the rows of a heap: the rows that go, the candidates, and the dead part. (SGen's bridge:
-- bridge objects that the program doesn't reach stay with all that they reach, until the other heap has spoken.)
use Rattle.std.specs.Prelude.{ℕ, ◌⊎◌, Bool, true, false, List, Option}
use Rattle.joint_machine.specs.Heaps.{Heap, IsLive}
use Rattle.joint_replay.specs.Found.{IsBridgeRow, IsRootReached, IsHandleReached, IsUnreachedRow, IsCandidateRow}
use Rattle.joint_replay.specs.Roots.{ListsExactly}

-- the lists of a snapshot, each of them rising and exact
pub record FindsRows (h : Heap) (held pins : List (Option ℕ)) (freed candidates dead : List ℕ) : Type 0 where
  pub frees : ListsExactly (λ m. IsLive h m × (IsRootReached h pins m → ⊥) × (IsHandleReached h held m → ⊥)) freed
  pub picks : ListsExactly (λ m. IsBridgeRow h held m × (IsRootReached h pins m → ⊥)) candidates
  pub leaves : ListsExactly (λ m. IsLive h m × (IsRootReached h pins m → ⊥) × IsHandleReached h held m) dead
  pub decides : (m : ℕ) → IsLive h m → IsHandleReached h held m ⊎ (IsHandleReached h held m → ⊥)

-- the lists of a snapshot by two lists of marks: of what the roots lead to, and of what the rows with a handle lead to
pub record ListsMarked (h : Heap) (held : List (Option ℕ)) (slots bridges : List Bool)
    (freed candidates dead : List ℕ) : Type 0 where
  pub frees : ListsExactly (IsUnreachedRow h slots bridges false) freed
  pub picks : ListsExactly (IsCandidateRow h held slots) candidates
  pub leaves : ListsExactly (IsUnreachedRow h slots bridges true) dead
