use Rattle.std.proofs.Common.{take}
use Rattle.picture_sheets.specs.Near.{Grows}
use Rattle.picture_sheets.proofs.near.put_all.Given as goal

abbrev pub invariant-loop-spot : goal.invariant-loop-spot
invariant-loop-spot l = Grows (take l.spot-index l.spots) l.initial.near l.near l.initial.fresh.items l.fresh.items
