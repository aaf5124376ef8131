use Rattle.std.proofs.Common.{◌≡◌, take}
use Rattle.std.specs.List.{filter}
use Rattle.heap_pictures.specs.declared.pictures.ObjectNode.{ObjectNode}
use Rattle.heap_pictures.specs.declared.pictures.Spot.TheVariants.{Object}
use Rattle.picture_sheets.specs.Keys.{has_spot, is_wanted}
use Rattle.picture_sheets.proofs.parts.objects_of.Given as goal

abbrev pub invariant-loop-node : goal.invariant-loop-node
invariant-loop-node l = l.found.items ≡ filter (λ (n : ObjectNode). is_wanted l.wanted (has_spot l.spots (Object n.m))) (take l.node-index l.nodes)
