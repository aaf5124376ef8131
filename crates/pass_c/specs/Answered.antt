-- The number of what is found of a cycle's outcome, and what is told with it.
use Rattle.std.specs.Prelude.{◌≡◌, ℕ}
use Rattle.bridge_graph.specs.declared.packing.Link.{Link}
use Rattle.cycle_check.specs.declared.outcome.Outcome.{Outcome}
use Rattle.cycle_check.specs.declared.outcome.Outcome.TheVariants.{Obeys, Torn, Early, Left}

abbrev pub IsAnswered : Outcome → ℕ → Link → Link → Type 0
IsAnswered Obeys status old new = (status ≡ 0) × (new ≡ old)
IsAnswered (Torn x y) status old new = (status ≡ 8) × (new ≡ record { from = x; to = y })
IsAnswered (Early x y) status old new = (status ≡ 9) × (new ≡ record { from = x; to = y })
IsAnswered (Left y) status old new = (status ≡ 10) × (new ≡ record { from = y; to = y })
