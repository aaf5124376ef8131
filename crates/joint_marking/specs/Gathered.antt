-- Lists of numbers that a loop over rising numbers gathers. (This project's own.)
use Rattle.std.specs.Prelude.{ℕ, ◌<◌, ◌↔◌, ◌⊎◌, List, Contains}
use Rattle.joint_machine.specs.Components.{Rises}

-- the list rises, and has exactly the numbers that are wanted
pub record RisesWith (wanted : ℕ → Type 0) (xs : List ℕ) : Type 0 where
  pub rises : Rises xs
  pub exact : (k : ℕ) → Contains xs k ↔ wanted k

-- `new` has what `old` has, and the numbers that are wanted
abbrev pub Gains : (ℕ → Type 0) → List ℕ → List ℕ → Type 0
Gains wanted old new = (k : ℕ) → Contains new k ↔ (Contains old k ⊎ wanted k)

-- some n below the bound brings k
pub record IsBrought (brings : ℕ → ℕ → Type 0) (bound k : ℕ) : Type 0 where
  pub by : ℕ
  pub below : by < bound
  pub brings_it : brings by k
