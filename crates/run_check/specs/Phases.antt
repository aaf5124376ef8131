-- In which phase a word was refused: the one that the reply names, where the driver may be in it, and else the plain
-- one.
use Rattle.std.specs.Prelude.{◌≡◌, ℕ, Bool, true, false, ◌&&◌, not, nat_eq, if◌then◌else◌, Option, Some, None}
use Rattle.joint_machine.specs.Phases.{next_phase}
use Rattle.joint_machine.specs.declared.names.Phase.{Phase}
use Rattle.joint_machine.specs.declared.names.Phase.TheVariants as at
use Rattle.joint_machine.specs.declared.names.PhaseWord.{PhaseWord}
use Rattle.joint_machine.specs.declared.events.Reply.{Reply}
use Rattle.joint_machine.specs.declared.events.Reply.TheVariants as says
use Rattle.caller_turns.specs.declared.stands.Stand.{Stand}
use Rattle.caller_turns.specs.declared.stands.Stand.TheVariants as stand

-- whether the driver may have come to the weakened phase: all handles are weakened, of which there may be none
abbrev pub is_weakened : Stand → ℕ → Bool
is_weakened (stand.Weakening o count weakened swept) candidates = not swept && nat_eq count candidates
is_weakened _ candidates = false

-- between the mirror and the own marking the phase is the mirrored one until the weakened one was seen
abbrev pub weakening_phase : ℕ → Bool → Bool → ℕ → Option Phase
weakening_phase count weakened swept candidates =
    if not swept && nat_eq count 0 && not weakened then Some at.Mirrored else
    if not swept && nat_eq count candidates then Some at.Weakened else None

-- the driver's phase; none where a phase is half done
abbrev pub plain_phase : Stand → ℕ → Option Phase
plain_phase stand.Idle candidates = Some at.Idle
plain_phase (stand.Snapped o) candidates = Some at.Snapped
plain_phase (stand.Contracted o) candidates = Some at.Contracted
plain_phase (stand.Weakening o count weakened swept) candidates = weakening_phase count weakened swept candidates
plain_phase (stand.Marked o) candidates = Some at.Marked
plain_phase (stand.Restoring o count) candidates = if nat_eq count 0 then Some at.Swept else None
plain_phase (stand.Restored o clear) candidates = Some at.Restored

-- the phase that is told
abbrev pub told_phase : Stand → ℕ → Reply → Option Phase
told_phase d candidates (says.At at.Weakened) = if is_weakened d
    candidates then Some at.Weakened else plain_phase d candidates
told_phase d candidates reply = plain_phase d candidates

-- the word is refused in it
abbrev pub IsRefusedAt : PhaseWord → Option Phase → Option Phase → Type 0
IsRefusedAt word told None = (p : Phase) → told ≡ Some p → next_phase p word ≡ None → ⊥
IsRefusedAt word told (Some p) = (told ≡ Some p) × (next_phase p word ≡ None)
