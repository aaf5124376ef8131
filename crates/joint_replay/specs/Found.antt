-- What a snapshot looks for, row by row: whether it is live, holds a handle, and is marked. (SGen's bridge: bridge
-- objects that the program doesn't reach stay with all that they reach, until the other heap's collector has said which
-- of them live.)
use Rattle.std.specs.Prelude.{◌≡◌, ℕ, Bool, true, false, List, Option, None, Some, is_some}
use Rattle.joint_machine.specs.Heaps.{Heap, IsLive, HasField, numbered_at}
use Rattle.joint_machine.specs.Walks.{Reached}
use Rattle.joint_replay.specs.Roots.{IsNamedOrPinned}
use Rattle.reachability.specs.Marks.{marked}

-- the handle at the row's place of a list of held handles
abbrev pub held_at : List (Option ℕ) → ℕ → Option ℕ
held_at held m = elim (numbered_at held m) [ None ↦ None | Some o ↦ o ]

-- whether there is a handle at the row's place
abbrev pub has_handle : List (Option ℕ) → ℕ → Bool
has_handle held m = is_some (held_at held m)

-- a live row that holds a handle
abbrev pub IsBridgeRow : Heap → List (Option ℕ) → ℕ → Type 0
IsBridgeRow h held m = IsLive h m × (has_handle held m ≡ true)

-- a live row that the first marks haven't, and that the second marks have, or haven't
abbrev pub IsUnreachedRow : Heap → List Bool → List Bool → Bool → ℕ → Type 0
IsUnreachedRow h slots bridges stays m = IsLive h m × (marked slots m ≡ false) × (marked bridges m ≡ stays)

-- a live row that holds a handle and isn't marked
abbrev pub IsCandidateRow : Heap → List (Option ℕ) → List Bool → ℕ → Type 0
IsCandidateRow h held slots m = IsLive h m × (has_handle held m ≡ true) × (marked slots m ≡ false)

-- a variable, a static or a pin reaches the row
abbrev pub IsRootReached : Heap → List (Option ℕ) → ℕ → Type 0
IsRootReached h pins m = Reached (IsNamedOrPinned h pins) (HasField h) m

-- a row that holds a handle reaches the row
abbrev pub IsHandleReached : Heap → List (Option ℕ) → ℕ → Type 0
IsHandleReached h held m = Reached (IsBridgeRow h held) (HasField h) m
