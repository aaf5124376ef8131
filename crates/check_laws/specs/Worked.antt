-- A cycle without candidates, after its mirror: a word may be refused there with either of two replies.
use Rattle.std.specs.Prelude.{ℕ, List, [], ◌∷◌, Option, Some, None}
use Rattle.joint_machine.specs.declared.names.Cycle.{Cycle}
use Rattle.joint_machine.specs.declared.names.Phase.{Phase}
use Rattle.joint_machine.specs.declared.names.Phase.TheVariants as at
use Rattle.joint_machine.specs.declared.names.PhaseWord.TheVariants as word
use Rattle.joint_machine.specs.declared.names.Thread.TheVariants.{C}
use Rattle.joint_machine.specs.declared.events.Op.{Op}
use Rattle.joint_machine.specs.declared.events.Op.TheVariants as op
use Rattle.joint_machine.specs.declared.events.Reply.{Reply}
use Rattle.joint_machine.specs.declared.events.Reply.TheVariants as says
use Rattle.joint_machine.specs.Linked.{opening_linkage, MayCome}
use Rattle.joint_machine.specs.Replaying.{AllMayCome, replayed}
use Rattle.joint_machine.specs.Told.{Told, Noted, snap_of, contraction_of, references_of, phase_of}

abbrev pub first_cycle : Cycle
first_cycle = record { 0 = 1 }

abbrev pub note : Op → Reply → Option ℕ → Told → ℕ → Noted
note o reply cites told number = record {
  entry = record { number = number; made = record { caller = C; index = 1; op = o; reply = reply; cites = cites } };
  told = told;
}

-- nothing is there; a cycle is opened, contracted and mirrored
abbrev pub mirrored_cycle : List Noted
mirrored_cycle =
    note (op.Snap first_cycle) (says.Snapped 0 record { first = 0; count = 0 }) None (snap_of [] [] []) 0
    ∷ note (op.Contract first_cycle) (says.Sccs 0 0) None (contraction_of [] [] []) 1
    ∷ note (op.Mirror first_cycle) (says.Refs 0) (Some 0) (references_of []) 2
    ∷ []

-- `sweep` is refused, in a phase
abbrev pub refusal : Phase → Noted
refusal phase = note (op.Refused word.Sweep) (says.At phase) None (phase_of phase) 3

-- so that a reply isn't a function of what came before
pub record HasTwoReplies : Type 0 where
  pub lawful : AllMayCome opening_linkage mirrored_cycle
  pub mirrored : MayCome (replayed opening_linkage mirrored_cycle) (refusal at.Mirrored)
  pub weakened : MayCome (replayed opening_linkage mirrored_cycle) (refusal at.Weakened)
