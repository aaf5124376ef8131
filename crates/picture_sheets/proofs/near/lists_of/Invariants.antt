use Rattle.std.proofs.Common.{take}
use Rattle.picture_sheets.specs.Near.{AreLists}
use Rattle.picture_sheets.proofs.near.lists_of.Given as goal

abbrev pub invariant-loop-arrow : goal.invariant-loop-arrow
invariant-loop-arrow l = AreLists (take l.arrow-index l.arrows) l.lists
