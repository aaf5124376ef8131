use Rattle.std.proofs.Common.{[], refl}
use Rattle.worked_histories.specs.Graphs.{ring, ring_bridges, ring_components}
use Rattle.worked_histories.proofs.PairGraphs.{pair_contraction}
use Rattle.worked_histories.proofs.graphs.components_of_a_circle.Goals as goal

pub returns : goal.returns
returns c = record { contraction = (pair_contraction ring ring_bridges ring_bridges refl ring_components [] []).holds refl; mirror = refl }
