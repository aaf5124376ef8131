-- Whether what was kept, and what was taken as dead, fits what reaches what. (SGen's bridge header: the client says
-- which components stay alive; what none of these reaches is dead.)
use Rattle.std.specs.Prelude.{◌≡◌, ℕ, ◌<◌, ◌↔◌, Bool, true, false, List, length}
use Rattle.joint_machine.specs.Walks.{Reached, Reaches}
use Rattle.cycle_check.specs.declared.outcome.Outcome.{Outcome}
use Rattle.cycle_check.specs.declared.outcome.Outcome.TheVariants.{Obeys, Torn, Early, Left}
use Rattle.array_graphs.specs.Graphs.{AreRows, IsBridgeAt, IsSet}

-- x is kept and reaches y, which is lost
pub record Loses (reaches : ℕ → ℕ → Type 0) (kept lost : ℕ → Type 0) (x y : ℕ) : Type 0 where
  pub holds : kept x
  pub walk : reaches x y
  pub gone : lost y

-- nothing that a kept one reaches is lost
abbrev pub IsWhole : (ℕ → ℕ → Type 0) → (ℕ → Type 0) → (ℕ → Type 0) → Type 0
IsWhole reaches kept lost = (x y : ℕ) → Loses reaches kept lost x y → ⊥

-- node x is a bridge node and was kept; it is one and wasn't
abbrev pub IsKept : List ℕ → List ℕ → ℕ → Type 0
IsKept kinds kept x = IsBridgeAt kinds x × IsSet kept x

abbrev pub IsLost : List ℕ → List ℕ → ℕ → Type 0
IsLost kinds kept x = IsBridgeAt kinds x × (IsSet kept x → ⊥)

-- the arrays are a graph, with a flag of either kind for each node
pub record AreMarked (kinds starts targets kept dead : List ℕ) : Type 0 where
  pub each_kept : length kept ≡ length kinds
  pub each_dead : length dead ≡ length kinds
  pub rows : AreRows (length kinds) starts targets

-- what is judged: all nodes, or bridge nodes alone
abbrev pub IsJudged : List ℕ → Bool → ℕ → Type 0
IsJudged kinds true x = IsBridgeAt kinds x
IsJudged kinds false x = x < length kinds

-- node y is held: a kept node reaches it
abbrev pub IsHeld : (ℕ → ℕ → Type 0) → (ℕ → Type 0) → ℕ → Type 0
IsHeld edge kept y = Reached kept edge y

-- what the cycle took as dead is exactly what no kept node reaches, and what was kept is closed
pub record IsObeyed (edge : ℕ → ℕ → Type 0) (kept lost judged dead : ℕ → Type 0) : Type 0 where
  pub whole : IsWhole (Reaches edge) kept lost
  pub exact : (y : ℕ) → judged y → dead y ↔ (IsHeld edge kept y → ⊥)

-- a kept node reaches one that was taken as dead
pub record IsEarly (edge : ℕ → ℕ → Type 0) (kept lost judged dead : ℕ → Type 0) (x y : ℕ) : Type 0 where
  pub whole : IsWhole (Reaches edge) kept lost
  pub early : Loses (Reaches edge) kept (λ z. judged z × dead z) x y

-- a node wasn't taken as dead, and no kept one reaches it; and none was that one does reach
pub record IsLeft (edge : ℕ → ℕ → Type 0) (kept lost judged dead : ℕ → Type 0) (y : ℕ) : Type 0 where
  pub whole : IsWhole (Reaches edge) kept lost
  pub none_early : IsWhole (Reaches edge) kept (λ z. judged z × dead z)
  pub judged_one : judged y
  pub spared : dead y → ⊥
  pub free : IsHeld edge kept y → ⊥

-- what is found says what holds, the first in the order of its cases
abbrev pub Says : (ℕ → ℕ → Type 0) → (ℕ → Type 0) → (ℕ → Type 0) → (ℕ → Type 0) → (ℕ → Type 0) → Outcome → Type 0
Says edge kept lost judged dead Obeys = IsObeyed edge kept lost judged dead
Says edge kept lost judged dead (Torn x y) = Loses (Reaches edge) kept lost x y
Says edge kept lost judged dead (Early x y) = IsEarly edge kept lost judged dead x y
Says edge kept lost judged dead (Left y) = IsLeft edge kept lost judged dead y
