-- Walks and reachability, for any rows, any start and any edges. (Textbook; the tracing collectors of
-- both heaps, the joint machine and the component analysis all speak of this one notion.)
-- Believed: the clauses of the program's top call rest on all that stands here.
use Rattle.std.specs.Prelude.{◌≡◌, List, [], ◌∷◌}

-- a walk: the row x and then the rows of a list, each of which the one before leads to, and the last is y
abbrev pub Walks : {A : Type 0} → (A → A → Type 0) → A → List A → A → Type 0
Walks edge x [] y = x ≡ y
Walks edge x (z ∷ zs) y = edge x z × Walks edge z zs y

-- x reaches y: some walk leads from x to y; each row reaches itself
pub record Reaches {A : Type 0} (edge : A → A → Type 0) (x y : A) : Type 0 where
  pub rows : List A
  pub walk : Walks edge x rows y

-- y is reached: some walk leads to it from a row of the start
pub record Reached {A : Type 0} (start : A → Type 0) (edge : A → A → Type 0) (y : A) : Type 0 where
  pub root : A
  pub starts : start root
  pub reaches : Reaches edge root y

-- x and y reach each other: they are in one strongly connected class
pub record Mutual {A : Type 0} (edge : A → A → Type 0) (x y : A) : Type 0 where
  pub there : Reaches edge x y
  pub back : Reaches edge y x
