-- What one step of a marking does to the marks and the waiting nodes. (This project's own.)
use Rattle.std.specs.Prelude.{◌≡◌, ℕ, ◌+◌, ◌≤◌, ◌⊎◌, Bool, List, Contains, length}
use Rattle.reachability.specs.Marks.{HasMark, unmarked}

-- the nodes of `row` were marked: `new` and `waits` are the marks and the waiting nodes afterwards
pub record Scans (row : ℕ → Type 0) (old : List Bool)
    (waited : List ℕ) (new : List Bool) (waits : List ℕ) : Type 0 where
  pub len : length new ≡ length old
  pub kept : (k : ℕ) → HasMark old k → HasMark new k
  pub done : (k : ℕ) → row k → HasMark new k
  pub fresh : (k : ℕ) → HasMark new k → HasMark old k ⊎ (row k × Contains waits k)
  pub stays : (k : ℕ) → Contains waited k → Contains waits k
  pub within : (k : ℕ) → Contains waits k → Contains waited k ⊎ HasMark new k
  pub fewer : unmarked new ≤ unmarked old
  pub same : unmarked new + length waits ≡ unmarked old + length waited
