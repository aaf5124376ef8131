-- Runs of phases one after another are a run of all of them.
use Rattle.std.specs.Prelude.{◌≡◌, ℕ, List, [], ◌∷◌, ◌++◌}
use Rattle.joint_machine.specs.declared.names.Phase.TheVariants as at
use Rattle.joint_machine.specs.declared.names.PhaseWord.{PhaseWord}
use Rattle.joint_machine.specs.declared.names.PhaseWord.TheVariants as word
use Rattle.joint_machine.specs.Phases.{phases_left, phases_of}
use Rattle.bridge_cycle.specs.Progress.{Progress, RunsWords}

abbrev pub PhasesRunOn : Type 0
PhasesRunOn = (old mid new : Progress) (index : ℕ) (ws vs : List PhaseWord)
    → RunsWords old mid index ws → RunsWords mid new index vs → RunsWords old new index (ws ++ vs)

-- a call runs that one phase
abbrev pub RunsOne : Progress → Progress → ℕ → PhaseWord → Type 0
RunsOne old new index w = RunsWords old new index (w ∷ [])

-- the eight phases, one by one
abbrev pub PhasesMakeACycle : Type 0
PhasesMakeACycle = (idle snapped contracted mirrored weakened marked swept restored resolved : Progress) (index : ℕ)
    → RunsOne idle snapped index word.Snap → RunsOne snapped contracted index word.Contract
    → RunsOne contracted mirrored index word.Mirror → RunsOne mirrored weakened index word.Weaken
    → RunsOne weakened marked index word.Mark → RunsOne marked swept index word.Sweep
    → RunsOne swept restored index word.Restore → RunsOne restored resolved index word.Resolve
    → RunsWords idle resolved index (phases_of word.Cycle)

-- the snap, and the phases that are left behind it
abbrev pub RestMakesACycle : Type 0
RestMakesACycle = (old mid new : Progress) (index : ℕ) → old.phase ≡ at.Idle → RunsOne old mid index word.Snap
    → RunsWords mid new index (phases_left mid.phase) → RunsWords old new index (phases_of word.Cycle)
