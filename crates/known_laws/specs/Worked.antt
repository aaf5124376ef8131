-- Small pasts and states, on which a premise of a law fails, and its conclusion with it.
use Rattle.std.specs.Prelude.{ℕ, false, true, if◌then◌else◌, List, [], ◌∷◌, Option, Some, None}
use Rattle.joint_machine.specs.declared.names.Thread.{Thread}
use Rattle.joint_machine.specs.declared.names.Thread.TheVariants.{M, P, C}
use Rattle.joint_machine.specs.declared.names.Phase.{Phase}
use Rattle.joint_machine.specs.declared.names.PhaseWord.TheVariants as word
use Rattle.joint_machine.specs.declared.lines.Act.TheVariants as act
use Rattle.joint_machine.specs.declared.events.Op.{Op}
use Rattle.joint_machine.specs.declared.events.Op.TheVariants as op
use Rattle.joint_machine.specs.declared.events.Reply.{Reply}
use Rattle.joint_machine.specs.declared.events.Reply.TheVariants as says
use Rattle.joint_machine.specs.Control.{opening_control, weakening}
use Rattle.joint_machine.specs.Linked.{Linkage}
use Rattle.joint_machine.specs.Managed.{opening_managed}
use Rattle.joint_machine.specs.ManagedReplay.{opening_replay}
use Rattle.joint_machine.specs.PeerReplay.{opening_peer_replay}
use Rattle.joint_machine.specs.Told.{Told, Noted, kept_pins, nothing, snap_of, phase_of}
use Rattle.joint_machine.specs.PinsTold.{no_pins}
use Rattle.known_laws.specs.Drawn.{KeptDrawn}
use Rattle.known_laws.specs.Growing.{Kept, shown, all_shown}
use Rattle.known_laws.specs.Pasts.{is_in, line}

-- an entry with what is told beside it
abbrev pub note : ℕ → Thread → ℕ → Op → Reply → Option ℕ → Told → Noted
note number t index o reply cites told =
    record {
      entry = record {
        number = number;
        made = record { caller = t; index = index; op = o; reply = reply; cites = cites };
      };
      told = told;
    }

-- m1 lets its variable a go
abbrev pub a_drop : ℕ → Noted
a_drop number = note number (M 1) 1 (op.Line (act.Drop record { 0 = 0 })) says.Ok None nothing

-- p1 lets its variable a go
abbrev pub a_peer_drop : ℕ → Noted
a_peer_drop number = note number (P 1) 1 (op.Line (act.Drop record { 0 = 0 })) says.Ok None nothing

-- the driver opens cycle 1 where nothing is
abbrev pub a_snap : Noted
a_snap = note 0 C 1 (op.Snap record { 0 = 1 })
    (says.Snapped 0 record { first = 0; count = 0 }) None (kept_pins no_pins (snap_of [] [] []))

-- m1 takes what its pin is said to hold, object 1, where no object was ever made
abbrev pub a_take : Noted
a_take = note 0 (M 1) 1 (op.Line (act.Take record { 0 = 0 }))
    (says.M record { 0 = 1 }) None (kept_pins (None ∷ Some 1 ∷ []) nothing)

-- m1 reads a cell that was never set, and says that its object is gone
abbrev pub a_read : Noted
a_read = note 0 (M 1) 1 (op.Line (act.Read record { 0 = 0 })) says.Gone None nothing

-- m1 gives handle 1 up
abbrev pub a_give : Noted
a_give = note 0 (M 1) 1 (op.Give record { 0 = 0 }) (says.H record { 0 = 1 }) None nothing

-- m1 releases the handle
abbrev pub a_release : ℕ → Noted
a_release number = note number (M 1) 1 (op.Release record { 0 = 1 }) says.Ok (Some 0) nothing

-- both releases cite the one give
abbrev pub released_twice : List Noted
released_twice = a_release 2 ∷ a_release 1 ∷ a_give ∷ []

-- the lines of a past
abbrev pub lines_of : List Noted → ℕ → List Kept
lines_of h i = all_shown (line i h)

-- a past with numbers 3 and 5
abbrev pub two_drops : List Noted
two_drops = a_peer_drop 5 ∷ a_drop 3 ∷ []

-- its entries, the later one first
abbrev pub turned_numbers : List Kept
turned_numbers = shown (a_peer_drop 5) ∷ shown (a_drop 3) ∷ []

-- an entry that is drawn with a target which it doesn't have
abbrev pub wrongly_drawn : KeptDrawn
wrongly_drawn = record {
  drawn = record { entry = (a_drop 0).entry; target = Some record { 0 = 1 }; freed = [] };
  pins = no_pins;
}

-- the lines of that entry alone
abbrev pub wrong_lines : ℕ → List KeptDrawn
wrong_lines i = if is_in i (a_drop 0) then wrongly_drawn ∷ [] else []

-- cycle 1 is mirrored and has no candidate
abbrev pub without_candidates : Linkage
without_candidates = record {
  managed = record opening_replay {
    managed = record opening_managed { cycle = Some record { number = 1; candidates = []; dead = [] }; cycles = 1 };
    contracted = true;
  };
  peer = record opening_peer_replay {
    mirror = Some record { cycle = 1; snap = 0; weakened = []; restored = []; renewed = [] };
    mirrors = 1 ∷ [];
  };
  control = record opening_control { stand = weakening record { cycle = 1; snap = 0 } 0 false false };
}

-- `cycle` is refused there, in that phase
abbrev pub a_refusal : Phase → Noted
a_refusal phase = note 3 C 2 (op.Refused word.Cycle) (says.CycleOpen record { 0 = 1 }) None (phase_of phase)
