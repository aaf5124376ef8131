use Rattle.std.proofs.Common.{◌<◌, take}
use Rattle.std.specs.List.{All}
use Rattle.array_graphs.proofs.graphs.are_nodes.Given as goal

abbrev pub invariant-loop-y : goal.invariant-loop-y
invariant-loop-y l = All (λ y. y < l.nodes) (take l.y-index l.targets)
