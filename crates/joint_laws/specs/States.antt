-- The states that a lawful list of entries goes through.
use Rattle.std.specs.Prelude.{ℕ, List, take}
use Rattle.joint_machine.specs.Linked.{Linkage, opening_linkage}
use Rattle.joint_machine.specs.Replaying.{replayed}
use Rattle.joint_machine.specs.Told.{Noted}

-- the state after the first entries of a list, so many of them, or after all where there are fewer
abbrev pub state_at : List Noted → ℕ → Linkage
state_at noted i = replayed opening_linkage (take i noted)
