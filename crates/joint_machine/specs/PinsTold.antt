-- The pins that the managed side's own list is told: a snap and a take have them, and no other entry.
use Rattle.std.specs.Prelude.{Bool, true, false, ℕ, List, replicate, Option, None, [], ◌∷◌}
use Rattle.joint_machine.specs.declared.events.Op.{Op}
use Rattle.joint_machine.specs.Told.{Told, kept_pins, Noted}
use Rattle.joint_machine.specs.Linked.{managed_after, ManagedLawful}
use Rattle.joint_machine.specs.ManagedReplay.{ManagedReplay}
use Rattle.joint_machine.specs.declared.lines.Act.TheVariants as act
use Rattle.joint_machine.specs.declared.events.Op.TheVariants as op
use Rattle.joint_machine.specs.declared.names.TheConstants.{PINS}

-- the events with which pins are kept: a snap and a `take`
abbrev pub is_pinned : Op → Bool
is_pinned (op.Snap k) = true
is_pinned (op.Line (act.Take v)) = true
is_pinned _ = false

-- what is told but for the pins
abbrev pub bare_told : Told → Told
bare_told (kept_pins pins told) = told
bare_told told = told

-- whether pins are told
abbrev pub tells_pins : Told → Bool
tells_pins (kept_pins pins told) = true
tells_pins told = false

-- all pins are empty; the pin with number 0 is nobody's
abbrev pub no_pins : List (Option ℕ)
no_pins = replicate PINS None

-- the pins that are told
abbrev pub pins_told : Told → List (Option ℕ)
pins_told (kept_pins pins told) = pins
pins_told told = no_pins

-- a managed entry with the pins that are kept with it: those that the readers' entries and the takes before it leave
pub record PinnedEntry : Type 0 where
  pub noted : Noted
  pub pins : List (Option ℕ)

-- the managed side's replay with other pins
abbrev pub with_pins : ManagedReplay → List (Option ℕ) → ManagedReplay
with_pins s pins = record s { managed = record s.managed { pins = pins } }

-- the managed side's own list in a history with readers: each entry is lawful with the pins that are kept with it
abbrev pub AllKeptLawful : ManagedReplay → List PinnedEntry → Type 0
AllKeptLawful s [] = Unit {0}
AllKeptLawful s (k ∷ ks) = ManagedLawful (with_pins s k.pins) k.noted.entry.made k.noted.told
    × AllKeptLawful (managed_after (with_pins s k.pins) k.noted.entry.made k.noted.told false) ks
