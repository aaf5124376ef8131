use Rattle.std.proofs.Common.{◌≡◌, ℕ, map, take}
use Rattle.heap_pictures.specs.Flags.{is_in}
use Rattle.heap_pictures.specs.declared.pictures.ObjectNode.{ObjectNode}
use Rattle.heap_pictures.specs.declared.pictures.Spot.TheVariants.{Object}
use Rattle.picture_sheets.specs.Keys.{has_spot}
use Rattle.picture_sheets.proofs.keys.object_set.Given as goal

abbrev pub invariant-loop-node : goal.invariant-loop-node
invariant-loop-node l = (m : ℕ) → has_spot l.set (Object m) ≡ is_in (map (λ (n : ObjectNode). n.m) (take l.node-index l.nodes)) m
