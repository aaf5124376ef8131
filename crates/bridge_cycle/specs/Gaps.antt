-- The gaps of a cycle: there is one after each phase but the last, in which others than the driver have a turn.
use Rattle.std.specs.Prelude.{◌≡◌, ℕ, List, [], ◌∷◌, length, slice_get, Some}
use Rattle.joint_machine.specs.declared.names.Phase.{Phase}
use Rattle.joint_machine.specs.declared.names.Phase.TheVariants as at
use Rattle.joint_machine.specs.declared.names.PhaseWord.{PhaseWord}
use Rattle.bridge_cycle.specs.Progress.{Progress, StopsForMemory}

-- the phases behind which there is a gap, in order
abbrev pub gap_phases : List Phase
gap_phases = at.Snapped ∷ at.Contracted ∷ at.Mirrored ∷ at.Weakened ∷ at.Marked ∷ at.Swept ∷ at.Restored ∷ []

-- the gap with that number, counted from 0, comes behind that phase
abbrev pub IsInGap : ℕ → Phase → Type 0
IsInGap n phase = slice_get gap_phases n ≡ Some phase

-- the driver ran the first of these phases, each with its gap; the next one found no memory, and so the driver is idle
pub record StopsInGaps (old new : Progress) (index : ℕ) (ws : List PhaseWord) (gaps : ℕ) : Type 0 where
  pub stops : StopsForMemory old new index ws
  pub each : gaps ≡ length stops.run
