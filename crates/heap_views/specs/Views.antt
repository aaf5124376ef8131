-- What there is to see of both heaps after some entries of a history: the joint machine's state, which handles a cycle
-- made weak, and the references that a cycle added between peers.
use Rattle.std.specs.Prelude.{◌≡◌, ℕ, ◌+◌, ◌≤◌, Bool, true, false, ◌&&◌, if◌then◌else◌, List, [], ◌∷◌, ◌++◌, Some}
use Rattle.std.specs.Prelude.{slice_get, take}
use Rattle.joint_machine.specs.declared.events.Op.{Op}
use Rattle.joint_machine.specs.declared.events.Op.TheVariants as op
use Rattle.joint_machine.specs.declared.events.Entry.{Entry}
use Rattle.joint_machine.specs.Components.{End}
use Rattle.joint_machine.specs.Histories.{Finished}
use Rattle.joint_machine.specs.Joint.{Joint, opening}
use Rattle.joint_machine.specs.Lines.{is_read}
use Rattle.joint_machine.specs.Readers.{is_set_aside}
use Rattle.joint_machine.specs.Run.{is_joint}
use Rattle.joint_replay.specs.declared.state.Verdict.{Verdict}
use Rattle.joint_replay.specs.declared.state.Verdict.TheVariants.{Lawful, Unlawful}
use Rattle.joint_replay.specs.Judging.{IsStepOf}
use Rattle.heap_views.specs.Mirrored.{AreMirrored}

-- `weakened` has the handles that cycles made weak, in that order
pub record View : Type 0 where
  pub joint : Joint
  pub weakened : List ℕ
  pub refs : List (End × End)

-- before the first entry
abbrev pub opening_view : View
opening_view = record { joint = opening; weakened = []; refs = [] }

-- whether the entry is a step of the joint machine
abbrev pub is_step : Entry → Bool
is_step e = if is_read e.made.op && is_set_aside e.made.reply then false else is_joint e.made.op

-- the handles that were weakened, after an event
abbrev pub weakened_after : List ℕ → Op → List ℕ
weakened_after hs (op.Weaken h) = hs ++ h.0 ∷ []
weakened_after hs _ = hs

-- the references that stand after an event: a mirror adds those of the dead part, and a clear removes them
abbrev pub RefsAfter : View → Op → List (End × End) → Type 0
RefsAfter old (op.Mirror k) next = AreMirrored old.joint.graph next
RefsAfter old (op.Clear k) next = next ≡ []
RefsAfter old _ next = next ≡ old.refs

-- what is seen after an entry that is no step of the joint machine
pub record Rests (e : Entry) (old new : View) : Type 0 where
  pub joint : new.joint ≡ old.joint
  pub weakened : new.weakened ≡ weakened_after old.weakened e.made.op
  pub refs : RefsAfter old e.made.op new.refs

-- and after one that is
pub record Moves (h : Finished) (e : Entry) (old new : View) : Type 0 where
  pub step : IsStepOf h e old.joint new.joint
  pub weakened : new.weakened ≡ old.weakened
  pub refs : new.refs ≡ old.refs

-- what is seen after an entry of a history, by whether it is such a step
abbrev pub StepBy : Bool → Finished → Entry → View → View → Type 0
StepBy true h e old new = Moves h e old new
StepBy false h e old new = Rests e old new

abbrev pub ViewStep : Finished → Entry → View → View → Type 0
ViewStep h e old new = StepBy (is_step e) h e old new

-- what is seen after entries of a history, one behind another
abbrev pub Seen : Finished → View → List Entry → View → Type 0
Seen h old [] new = new ≡ old
Seen h old (e ∷ es) new = (mid : View) × ViewStep h e old mid × Seen h mid es new

-- whether a verdict says that an entry is a step
abbrev pub is_lawful : Verdict → Bool
is_lawful Lawful = true
is_lawful Unlawful = false

-- an entry was a step of the joint machine, or it is none; it was gone on by, or it can't be
abbrev pub MovesOn : Bool → Finished → Entry → View → View → Type 0
MovesOn true h e old new = Moves h e old new
MovesOn false h e old new = (next : View) → Moves h e old next → ⊥

abbrev pub GoesOn : Bool → Finished → Entry → View → View → Type 0
GoesOn true h e old new = ViewStep h e old new
GoesOn false h e old new = (next : View) → ViewStep h e old next → ⊥

-- one of the entries up to that one is no step from what is seen before it
pub record IsStuck (h : Finished) (n : ℕ) : Type 0 where
  pub place : ℕ
  pub within : place ≤ n
  pub before : View
  pub seen : Seen h opening_view (take place h.entries) before
  pub entry : Entry
  pub there : slice_get h.entries place ≡ Some entry
  pub stuck : (next : View) → ViewStep h entry before next → ⊥

-- the entries up to that one were gone on by, or one of them is no step
abbrev pub IsSeenOn : Bool → Finished → ℕ → View → Type 0
IsSeenOn true h i new = Seen h opening_view (take (i + 1) h.entries) new
IsSeenOn false h i new = IsStuck h i
