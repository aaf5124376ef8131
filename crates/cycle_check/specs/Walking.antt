-- Rows of a caller's arrays, as a graph that is walked, and components with members that are flagged or aren't.
use Rattle.std.specs.Prelude.{◌≡◌, ℕ, ◌↔◌, Bool, List, Option, Some, Contains, length, map}
use Rattle.bridge_graph.specs.Packing.{packed_row}
use Rattle.array_graphs.specs.Graphs.{IsSet, LeadsInRow}
use Rattle.joint_machine.specs.Walks.{Reached}
use Rattle.reachability.specs.Marks.{HasMark}
use Rattle.cycle_check.specs.Judging.{IsJudged, IsKept, IsLost}

-- the targets of row x
abbrev pub row_targets : List ℕ → List ℕ → ℕ → List (Option ℕ)
row_targets starts targets x = map (λ y. Some y) (packed_row starts targets x)

-- component c has a member that is flagged
abbrev pub HasKept : List ℕ → List ℕ → List ℕ → ℕ → Type 0
HasKept starts members kept c = (x : ℕ) × Contains (packed_row starts members c) x × IsSet kept x

-- component c has a member that isn't
abbrev pub HasLost : List ℕ → List ℕ → List ℕ → ℕ → Type 0
HasLost starts members kept c = (x : ℕ) × Contains (packed_row starts members c) x × (IsSet kept x → ⊥)

-- marks for what the kept bridge nodes reach, and these
pub record IsHolding (kinds starts targets kept : List ℕ) (marks : List Bool) (roots : List ℕ) : Type 0 where
  pub count : length marks ≡ length kinds
  pub kept_ones : (x : ℕ) → Contains roots x ↔ IsKept kinds kept x
  pub exact : (y : ℕ) → HasMark marks y ↔ Reached (IsKept kinds kept) (LeadsInRow starts targets) y

-- a held node is a bridge node that wasn't kept
abbrev pub IsTornAt : List ℕ → List ℕ → List Bool → ℕ → Type 0
IsTornAt kinds kept marks y = HasMark marks y × IsLost kinds kept y

-- a held node that is judged was taken as dead
abbrev pub IsEarlyAt : List ℕ → List ℕ → List Bool → Bool → ℕ → Type 0
IsEarlyAt kinds dead marks bridges y = HasMark marks y × IsJudged kinds bridges y × IsSet dead y

-- a node that is judged and isn't held wasn't
abbrev pub IsLeftAt : List ℕ → List ℕ → List Bool → Bool → ℕ → Type 0
IsLeftAt kinds dead marks bridges y = (HasMark marks y → ⊥) × IsJudged kinds bridges y × (IsSet dead y → ⊥)
