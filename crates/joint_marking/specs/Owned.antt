-- Which handles live objects hold, as marks of the handles by their numbers. (This project's own.)
use Rattle.std.specs.Prelude.{ℕ, ◌<◌}
use Rattle.joint_machine.specs.Managed.{Managed, Holds}

-- a live object holds the handle, which is within the marks
pub record IsOwned (s : Managed) (marks h : ℕ) : Type 0 where
  pub owner : ℕ
  pub holds : Holds s owner h
  pub marked : h < marks

-- a live object below the bound holds the handle, which is within the marks
pub record IsOwnedBelow (s : Managed) (bound marks h : ℕ) : Type 0 where
  pub owner : ℕ
  pub below : owner < bound
  pub holds : Holds s owner h
  pub marked : h < marks
