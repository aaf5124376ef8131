-- A flag for each number of a list.
use Rattle.std.specs.Prelude.{◌≡◌, ℕ, ◌<◌, ◌≤◌, Bool, true, false, nat_eq, List, length, Some, None, slice_get}
use Rattle.std.specs.List.{list_any}

-- whether the number stands in the list
abbrev pub is_in : List ℕ → ℕ → Bool
is_in numbers n = list_any (nat_eq n) numbers

-- the flag at the number's place; none past the end
abbrev pub flag_at : List Bool → ℕ → Bool
flag_at flags n = elim (slice_get flags n) [ None ↦ false | Some flag ↦ flag ]

-- of each number up to `most` the flag says whether it stands in the list
abbrev pub AreFlags : ℕ → List ℕ → List Bool → Type 0
AreFlags most numbers flags = (n : ℕ) → n ≤ most → flag_at flags n ≡ is_in numbers n

-- the number's flag is up, where it has one, and the others are as they were
pub record Raises (n : ℕ) (old new : List Bool) : Type 0 where
  pub len : length new ≡ length old
  pub own : n < length old → flag_at new n ≡ true
  pub others : (k : ℕ) → nat_eq k n ≡ false → flag_at new k ≡ flag_at old k
