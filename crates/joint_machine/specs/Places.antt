-- What stands at a place of a list.
-- Believed: the clauses of the program's top call rest on all that stands here.
use Rattle.std.specs.Prelude.{◌≡◌, ℕ, List, Some, slice_get}

-- the element at that place of the list is so
pub record At {A : Type 0} (xs : List A) (i : ℕ) (Is : A → Type 0) : Type 0 where
  pub element : A
  pub there : slice_get xs i ≡ Some element
  pub is : Is element
