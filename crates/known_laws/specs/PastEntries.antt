-- The entries of what somebody knows, and when a refusal tells its phase plainly.
-- Believed: the clauses of the program's top call rest on all that stands here.
use Rattle.std.specs.Prelude.{◌≡◌, true, ◌⊎◌, List, [], ◌∷◌, map}
use Rattle.joint_machine.specs.declared.events.Op.{Op}
use Rattle.joint_machine.specs.Control.{Stand, weakening}
use Rattle.joint_machine.specs.Told.{Told, phase_of, Noted}
use Rattle.joint_machine.specs.declared.events.Entry.{Entry}
use Rattle.joint_machine.specs.declared.names.Phase.TheVariants as at
use Rattle.joint_machine.specs.declared.names.PhaseWord.TheVariants as word
use Rattle.joint_machine.specs.declared.events.Op.TheVariants as op

-- before the first weakening it was seen that the driver has come to the weakened phase
abbrev pub IsSeen : Stand → Type 0
IsSeen (weakening o count weakened swept) = count ≡ 0 → weakened ≡ true
IsSeen _ = Unit {0}

-- In a cycle without candidates the mirrored phase becomes the weakened one at a point that no entry shows. So a
-- refusal that answers the open cycle's number, and not the phase, is told as of the mirrored phase until the weakened
-- one was seen.
abbrev pub TellsPlainly : Stand → Op → Told → Type 0
TellsPlainly stand (op.Refused word.Cycle) (phase_of at.Weakened) = IsSeen stand
TellsPlainly stand (op.Refused word.Snap) (phase_of at.Weakened) = IsSeen stand
TellsPlainly stand _ _ = Unit {0}

-- the entry stands in the past
abbrev pub InPast : List Noted → Noted → Type 0
InPast [] e = ⊥
InPast (x ∷ xs) e = (x ≡ e) ⊎ InPast xs e

-- the entries of notes, and of what a line keeps
abbrev pub entries : List Noted → List Entry
entries ns = map (λ n. n.entry) ns

-- a list the other way round, before another
abbrev pub turned : {A : Type 0} → List A → List A → List A
turned acc [] = acc
turned acc (x ∷ xs) = turned (x ∷ acc) xs
