-- Lists of numbers that a loop over rising numbers gathers. (This project's own.)
use Rattle.std.specs.Prelude.{ℕ, ◌<◌, ◌↔◌, List, Contains}
use Rattle.joint_machine.specs.Components.{Rises}

-- the list rises, and has exactly the numbers below n that are wanted
pub record Gathered (wanted : ℕ → Type 0) (n : ℕ) (xs : List ℕ) : Type 0 where
  pub rises : Rises xs
  pub exact : (k : ℕ) → Contains xs k ↔ ((k < n) × wanted k)
