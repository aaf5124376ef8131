use Rattle.std.proofs.Common.{◌≡◌, ℕ, take}
use Rattle.std.specs.List.{filter}
use Rattle.heap_pictures.specs.declared.pictures.Spot.TheVariants.{Object}
use Rattle.picture_sheets.specs.Keys.{has_spot}
use Rattle.picture_sheets.proofs.parts.near_names.Given as goal

abbrev pub invariant-loop-m : goal.invariant-loop-m
invariant-loop-m l = l.found.items ≡ filter (λ (m : ℕ). has_spot l.near (Object m)) (take l.m-index l.names)
