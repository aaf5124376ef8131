-- The entries so far are known to whoever checks them: they are a past of one who knows them all, with the pins of the
-- state told at each snap and `take`. So all that every known past keeps holds of the state, but for the pins.
use Rattle.std.specs.Prelude.{◌≡◌, List}
use Rattle.joint_machine.specs.Histories.{Finished, NumberedFrom}
use Rattle.joint_machine.specs.Told.{Noted}
use Rattle.joint_machine.specs.PinsTold.{no_pins}
use Rattle.known_laws.specs.Driving.{PastInvariant}
use Rattle.known_laws.specs.PastEntries.{entries}
use Rattle.known_laws.specs.Known.{pinned}
use Rattle.known_laws.specs.Pasts.{Lawful, end_of}
use Rattle.check_laws.specs.Behind.{in_turn, state_of, AllInOrder}

-- a past of one who knows them all
pub record IsKnown (past : List Noted) : Type 0 where
  pub known : List Noted
  pub same : entries known ≡ entries past
  pub lawful : Lawful known
  pub ends : end_of known ≡ pinned (state_of past) no_pins

-- and what it keeps
pub record AreKnown (past : List Noted) : Type 0 where
  pub is : IsKnown past
  pub kept : PastInvariant (pinned (state_of past) no_pins)

abbrev pub PastsInOrderAreKnown : Type 0
PastsInOrderAreKnown = (h : Finished) (past : List Noted)
    → NumberedFrom 0 (entries (in_turn past)) → AllInOrder h past → AreKnown past
