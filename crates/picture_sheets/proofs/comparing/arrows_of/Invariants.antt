use Rattle.std.proofs.Common.{◌≡◌, take}
use Rattle.std.specs.List.{filter}
use Rattle.heap_pictures.specs.declared.pictures.Arrow.{Arrow}
use Rattle.picture_sheets.specs.Keys.{has_key, is_wanted}
use Rattle.picture_sheets.proofs.comparing.arrows_of.Given as goal

abbrev pub invariant-loop-arrow : goal.invariant-loop-arrow
invariant-loop-arrow l = l.found.items ≡ filter (λ (a : Arrow). is_wanted l.wanted (has_key l.set a)) (take l.arrow-index l.arrows)
