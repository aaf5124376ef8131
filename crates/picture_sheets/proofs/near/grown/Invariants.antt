use Rattle.std.proofs.Common.{[], take}
use Rattle.std.specs.Prelude.{flat_map}
use Rattle.picture_sheets.specs.Near.{Grows, joined_to}
use Rattle.picture_sheets.proofs.near.grown.Given as goal

abbrev pub invariant-loop-spot : goal.invariant-loop-spot
invariant-loop-spot l = Grows (flat_map (joined_to l.lists) (take l.spot-index l.newest)) l.initial.near l.near [] l.fresh.items
