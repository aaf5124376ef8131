use Rattle.std.proofs.Common.{◌≡◌, take}
use Rattle.std.specs.List.{filter}
use Rattle.picture_sheets.specs.Around.{is_between}
use Rattle.picture_sheets.specs.Keys.{has_spot}
use Rattle.picture_sheets.proofs.parts.near_arrows.Given as goal

abbrev pub invariant-loop-arrow : goal.invariant-loop-arrow
invariant-loop-arrow l = l.found.items ≡ filter (is_between (has_spot l.near)) (take l.arrow-index l.arrows)
