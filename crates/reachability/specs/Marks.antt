-- Marks of nodes, and what a marking of a graph says. A graph is told by the number of its nodes, which are
-- the numbers below it, and by the targets of each node, where None stands for an empty place. (Textbook:
-- the marking of a tracing collector.)
use Rattle.std.specs.Prelude.{◌≡◌, ℕ, ◌+◌, ◌<◌, Bool, true, false, List, [], ◌∷◌, Option, Some, Contains, slice_get}
use Rattle.std.specs.Prelude.{None, not, filter}

-- node x has node y among its targets
abbrev pub Leads : ℕ → (ℕ → List (Option ℕ)) → ℕ → ℕ → Type 0
Leads nodes targets x y = (x < nodes) × Contains (targets x) (Some y)

-- node k is marked
abbrev pub HasMark : List Bool → ℕ → Type 0
HasMark marks k = slice_get marks k ≡ Some true

-- what a marked node leads to is marked
abbrev pub IsClosed : (ℕ → ℕ → Type 0) → List Bool → Type 0
IsClosed edge marks = (x y : ℕ) → edge x y → HasMark marks x → HasMark marks y

-- how many nodes aren't marked
abbrev pub unmarked : List Bool → ℕ
unmarked [] = 0
unmarked (true ∷ marks) = unmarked marks
unmarked (false ∷ marks) = unmarked marks + 1

-- whether the row is marked
abbrev pub marked : List Bool → ℕ → Bool
marked marks m = elim (slice_get marks m) [ None ↦ false | Some b ↦ b ]

-- the rows that aren't marked
abbrev pub unmarked_of : List Bool → List ℕ → List ℕ
unmarked_of marks ms = filter (λ m. not (marked marks m)) ms
