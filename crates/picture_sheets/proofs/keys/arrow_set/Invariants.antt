use Rattle.std.proofs.Common.{◌≡◌, take}
use Rattle.std.specs.List.{list_any}
use Rattle.heap_pictures.specs.declared.pictures.Arrow.{Arrow}
use Rattle.picture_sheets.specs.Keys.{has_key}
use Rattle.picture_sheets.specs.Same.{same_arrow}
use Rattle.picture_sheets.proofs.keys.arrow_set.Given as goal

abbrev pub invariant-loop-arrow : goal.invariant-loop-arrow
invariant-loop-arrow l = (a : Arrow) → has_key l.set a ≡ list_any (same_arrow a) (take l.arrow-index l.arrows)
