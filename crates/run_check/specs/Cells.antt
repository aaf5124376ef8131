-- The targets of the cells as they are kept.
use Rattle.std.specs.Prelude.{ℕ, List, slice_set, Option, Some, None}
use Rattle.joint_machine.specs.declared.names.MNum.{MNum}
use Rattle.joint_machine.specs.declared.events.Reply.{Reply}
use Rattle.joint_machine.specs.declared.events.Reply.TheVariants as says

-- a `weak` that answered ok has set the cell to the object
abbrev pub targets_after : List (Option MNum) → ℕ → Reply → Option MNum → List (Option MNum)
targets_after targets k says.Ok (Some m) = slice_set targets k (Some m)
targets_after targets k _ _ = targets
